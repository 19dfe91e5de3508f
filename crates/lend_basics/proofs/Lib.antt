pub mod Bools
pub mod Rights
pub mod Lists
pub mod Loops
pub mod Pigeon
pub mod Unique
pub mod Counting
