pub mod Script
pub mod From
pub mod Bound
pub mod Run
