pub mod Faults
pub mod Fields
pub mod Lines
pub mod Operations
pub mod Reading
pub mod Replaying
pub mod Scenes
pub mod States
