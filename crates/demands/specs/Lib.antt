-- The demands, all to be believed but Computing, which names what has to be opened to compute a case. The theorems stand in proofs/
-- under the same names.
pub mod Calls
pub mod UniqueOutside
pub mod Conditions
pub mod Demand1
pub mod Holds
pub mod Demand2
pub mod Demand3
pub mod Alike
pub mod Computing
pub mod Cases
