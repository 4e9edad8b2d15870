-- Proved of specs/, for the calls' proofs.
pub mod AlikeLaws
pub mod BlockLaws
pub mod ChangeLaws
pub mod PutCounts
pub mod PutLaws
