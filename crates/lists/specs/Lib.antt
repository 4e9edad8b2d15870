-- To believe: Lists (set, del, plain put) and FullLists (the split, put), document 01's lists of steps; Served, what is
-- promised of a list, in words; the two records of Bytes, the same in bytes. SetDel says which leaf stands before another.
pub mod Lists
pub mod FullLists
pub mod Served
pub mod SetDel
pub mod Bytes
