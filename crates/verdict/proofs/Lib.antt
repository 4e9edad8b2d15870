-- The survey says "sound" exactly when the image is, and its notes are right.
pub mod Notes
pub mod Passed
pub mod Verdict
