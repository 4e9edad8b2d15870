-- The walk as a function of the leaves: Marks (the blocks met), Walk (the state, a leaf judged, the whole walk). Proved of it: Turns,
-- which the code cites.
pub mod Marks
pub mod Walk
pub mod Turns
