pub mod Beginnings
pub mod Seven
pub mod Cases
