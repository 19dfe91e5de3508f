pub mod Cut
pub mod Link
pub mod Calls
pub mod Bounds
pub mod Meaning
