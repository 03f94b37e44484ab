-- What an object that tells nothing tells.
pub mod Untold
