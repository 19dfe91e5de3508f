pub mod Corners
