pub mod Lines
pub mod Places
pub mod Slots
pub mod SoundTest
pub mod Start
pub mod Links
pub mod Summary
