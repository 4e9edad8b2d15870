pub mod Exact
pub mod Lines
pub mod ParseLaws
pub mod ReadingLaws
