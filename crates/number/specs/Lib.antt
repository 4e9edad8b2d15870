-- To believe: Decimal. Reading has the shape of the code; proofs/DecimalLaws says what Reading means.
pub mod Decimal
pub mod Reading
