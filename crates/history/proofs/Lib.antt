pub mod Walks
pub mod Plain
pub mod Answers
pub mod Standing
pub mod Steps
pub mod Facts
pub mod Carried
pub mod Made
