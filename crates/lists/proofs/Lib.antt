-- When a list serves, by its sections; headers as two words; how long the lists are.
pub mod Joined
pub mod Parts
pub mod Headers
pub mod Sizes
-- Each list serves.
pub mod SetDel
pub mod Beside
pub mod PlainPut
pub mod NewLeaf
pub mod AfterSplit
pub mod FullPut
pub mod Put
-- In bytes: demand 2 and the rows of demand 3 for the three calls.
pub mod Bytes
pub mod ServedCalls
-- The slips that document 01 names, computed.
pub mod Slips
