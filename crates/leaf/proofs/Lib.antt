-- Proved of specs/: LeafLaws, SearchLaws, TallyLaws; SearchSteps and TallySteps are what the code's loops cite.
pub mod LeafLaws
pub mod SearchLaws
pub mod SearchSteps
pub mod TallyLaws
pub mod TallySteps
