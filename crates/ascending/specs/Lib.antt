pub mod Order
pub mod Search
pub mod Places
pub mod Merging
pub mod Steps
