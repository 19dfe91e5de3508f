pub mod Found
pub mod Far
