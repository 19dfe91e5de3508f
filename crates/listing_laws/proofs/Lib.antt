pub mod Answers
pub mod Rows
pub mod RoundTrip
pub mod OneListing
pub mod Longest
pub mod Shorter
pub mod Reached
pub mod Models
