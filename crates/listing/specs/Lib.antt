pub mod Live
pub mod Listing
pub mod Content
pub mod Read
pub mod Loop
pub mod Write
