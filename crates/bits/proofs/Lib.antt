pub mod Members
pub mod Rising
mod Joining
mod Leaving
mod Places
pub mod Lengths
mod Sixteens
