pub mod Answering
pub mod Judging
