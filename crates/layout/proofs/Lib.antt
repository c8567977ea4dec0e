pub mod Starts
pub mod Joined
pub mod Laid
mod Placing
mod Whole
mod Tries
mod Walk
pub mod Looks
