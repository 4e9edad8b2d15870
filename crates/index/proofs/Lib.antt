-- Proved of specs/: SoundTest (refusal 3 is image's `SoundImage`), Agreement (with the map), AlikeReading and BlankReading. The
-- others serve the proofs of the calls.
pub mod Agreement
pub mod AlikeReading
pub mod Along
pub mod BlankReading
pub mod Filling
pub mod FindLaws
pub mod ListingLaws
pub mod RecoveryLaws
pub mod SoundTest
