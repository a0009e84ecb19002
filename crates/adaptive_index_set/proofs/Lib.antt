pub mod Calls
pub mod Soundness
pub mod Stored
pub mod Paths
