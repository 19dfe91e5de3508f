pub mod Ended
pub mod Demand3
pub mod Fault
pub mod RangeSteps
