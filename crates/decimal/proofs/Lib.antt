pub mod Spelled
pub mod Cases
pub mod Decimal
pub mod Reading
pub mod Printed
