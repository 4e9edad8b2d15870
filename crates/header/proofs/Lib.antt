-- Proved of specs/: laws of fields, of the lowest bit and of exclusive-or; HeaderCode: what the code computes is what they say.
pub mod FieldLaws
pub mod HeaderCode
pub mod HeaderLaws
pub mod Lowest
pub mod Xor
