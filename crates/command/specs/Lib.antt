-- To believe: Spelling. Reading has the shape of the code; proofs/Exact and proofs/Lines say what Reading means.
pub mod Spelling
pub mod Reading
