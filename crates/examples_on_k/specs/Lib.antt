pub mod Table
pub mod Crosswise
