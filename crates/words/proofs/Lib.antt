pub mod Cases
pub mod SetLaws
pub mod BitLaws
pub mod RowLaws
pub mod MemberLaws
pub mod LoopLaws
pub mod KeyLaws
pub mod Examples
