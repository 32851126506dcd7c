pub mod Lots
pub mod Moving
pub mod Written
pub mod Accepted
pub mod Laws
pub mod Cases
