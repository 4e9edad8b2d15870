-- To believe: Reading (what find, listing and recovery answer), and Agreement's `found_in`. The others say what the calls' parts do.
pub mod Reading
pub mod FindLaws
pub mod Filling
pub mod ListingLaws
pub mod Agreement
