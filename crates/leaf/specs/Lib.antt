-- To believe: Leaf (a leaf as it is read), Search (where a key stands, the least key from one on, the lowest vacant slot, how many
-- are occupied). Tally and TallySteps say what the one pass over the slots tells.
pub mod Leaf
pub mod Search
pub mod Tally
pub mod TallySteps
