pub mod Readable
pub mod Examined
pub mod Unique
