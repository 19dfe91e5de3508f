pub mod Models
pub mod Chain
pub mod Unique
pub mod RangeChain
pub mod GivenAway
pub mod Links
