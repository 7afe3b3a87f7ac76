pub mod Passes
pub mod Judged
pub mod Ascent
pub mod Listed
pub mod Merged
pub mod Halving
pub mod Unlike
