-- Insertion: what the code promises (`Ordered`, by image's `slots_from`), and the laws of putting in one slot more.
pub mod Insertion
