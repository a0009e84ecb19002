pub mod Outcomes
pub mod IndexLaws
pub mod Slices
pub mod States
pub mod Examples
pub mod Paths
