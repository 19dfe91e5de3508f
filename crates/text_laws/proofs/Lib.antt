pub mod Numbers
pub mod Fields
pub mod Forms
pub mod Requests
pub mod Whole
