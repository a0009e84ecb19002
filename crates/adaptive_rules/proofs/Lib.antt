pub mod Lines
pub mod RuleLaws
pub mod ByteLaws
pub mod CallLaws
pub mod SequenceLaws
pub mod Meaning
