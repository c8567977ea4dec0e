pub mod Sets
pub mod Chosen
pub mod Places
pub mod PlacesLaw
pub mod Sixteens
