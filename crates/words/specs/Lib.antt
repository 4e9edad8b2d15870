-- To believe: Words, and Below (at one number below n, at how many, and at which first). Proved of them: WordLaws, BelowLaws. Update is a store in
-- a memory that is read by index; Bools goes by a test's value.
pub mod Words
pub mod Update
pub mod Bools
pub mod Below
pub mod WordLaws
pub mod BelowLaws
