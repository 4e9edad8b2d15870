-- To believe: Writing (what put, set and del answer and make). The others say what the calls' parts answer and count.
pub mod Writing
pub mod Alike
pub mod PutCounts
