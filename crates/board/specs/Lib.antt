pub mod Model
pub mod Board
pub mod Range
pub mod Found
pub mod Cache
