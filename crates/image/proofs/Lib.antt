pub mod Bytes
pub mod Image
pub mod Answered
pub mod Runs
pub mod Taken
pub mod Parts
