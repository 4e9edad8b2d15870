-- Proved of specs/: the tables that the code keeps say what the model counts, and the refusals are what they find.
pub mod Fits
pub mod Lengths
pub mod Lost
pub mod Tables
pub mod TakingLaws
