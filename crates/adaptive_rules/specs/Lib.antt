pub mod States
pub mod Rules
pub mod Bytes
pub mod Calls
pub mod Sequences
