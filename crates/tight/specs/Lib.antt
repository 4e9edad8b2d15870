-- A run of calls, over the runs of demands/specs/Demand3, for which demand 3 is not loose: proofs/Tight has the two theorems.
pub mod Tight
