pub mod Layout
pub mod Placing
pub mod LookUp
pub mod Faults
