pub mod Taking
pub mod Fits
pub mod Tables
pub mod Lost
