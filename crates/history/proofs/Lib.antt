pub mod FaultLaws
pub mod InputLaws
pub mod LineLaws
pub mod PrintLaws
pub mod ReadLaws
pub mod ReplayLaws
pub mod RunLaws
