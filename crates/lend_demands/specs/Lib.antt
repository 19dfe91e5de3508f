pub mod Demand3
pub mod RangeSteps
pub mod GivenAway
