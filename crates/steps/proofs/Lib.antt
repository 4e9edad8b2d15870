-- Proved of specs/: what a cut can leave (Section), what is settled, the lists' shapes, and cases of the memory model.
pub mod Cases
pub mod Concatenation
pub mod EncodingLaws
pub mod Indices
pub mod LastFence
pub mod Lists
pub mod Refusals
pub mod Rules
pub mod Section
pub mod Settling
pub mod Shapes
pub mod Stores
pub mod Views
