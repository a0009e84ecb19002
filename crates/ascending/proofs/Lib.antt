pub mod ValueLaws
pub mod OrderLaws
pub mod SearchLaws
pub mod PlaceLaws
pub mod MergingLaws
pub mod RowLaws
pub mod WalkLaws
