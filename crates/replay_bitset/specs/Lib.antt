pub mod Calling
pub mod Replay
