pub mod Examples
pub mod Crosswise
