pub mod Inner
pub mod Lending
pub mod Access
pub mod Ranges
pub mod Earlier
