-- The theorems: of each file of specs/ that has one, under its name. Sentences, Free, Accepted and Carried join the calls' contracts
-- with what the crates below prove.
pub mod Numbers
pub mod Unique
pub mod UniqueOutside
pub mod Sentences
pub mod Demand1
pub mod OnlyMalformed
pub mod Malformed
pub mod Accepted
pub mod Carried
pub mod Demand2
pub mod Demand3
pub mod Free
pub mod Freed
pub mod FreedTaken
pub mod Alike
pub mod Cases
