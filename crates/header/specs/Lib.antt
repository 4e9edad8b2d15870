-- To believe: Fields (runs of bits), Header (a leaf's two words).
pub mod Fields
pub mod Header
