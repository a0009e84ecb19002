pub mod Outcomes
pub mod States
pub mod Meaning
pub mod Examples
pub mod Paths
