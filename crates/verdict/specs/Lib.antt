-- What the survey's tests ask of a leaf, the target as a function, and what its notes say.
pub mod Passed
pub mod Place
pub mod Notes
