-- To believe: Perform. Printing has the shape of the code that writes.
pub mod Perform
pub mod Printing
pub mod ListLaws
