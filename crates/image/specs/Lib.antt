-- To believe: Map (a map, also as a rising list, with the plain operations), Chain (the chain, sound, the lowest free
-- block), Target, Image (an image of bytes, the blank one, alike ones), Kept (what is used, harmless stores),
-- Potential, Copies.
pub mod Map
pub mod Chain
pub mod Target
pub mod Image
pub mod Kept
pub mod Potential
pub mod Copies
-- A leaf's slots and a chain's entries in rising order, a leaf of a sound chain, the walk along it, the value of a slot.
pub mod Order
pub mod ChainLaws
pub mod Walk
pub mod Entries
pub mod Answers
