pub mod Accessing
pub mod Looks
