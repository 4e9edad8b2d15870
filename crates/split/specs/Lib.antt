-- To believe: Full (what the put into a full leaf promises). Laws: Heads (the two headers), Stores (the new leaf and the steps
-- of a split).
pub mod Heads
pub mod Stores
pub mod Full
