pub mod Turns
pub mod Running
pub mod Bound
pub mod Runs
pub mod Parts
