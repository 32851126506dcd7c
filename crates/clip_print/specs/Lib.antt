pub mod Printed
pub mod Lengths
