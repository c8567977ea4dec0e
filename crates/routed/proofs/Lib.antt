mod Made
mod Clean
pub mod Ones
pub mod Reaches
pub mod Alike
pub mod TurnsFound
pub mod Mosts
pub mod Spread
pub mod Told
pub mod Matched
