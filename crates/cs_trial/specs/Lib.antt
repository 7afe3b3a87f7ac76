pub mod Jumps
pub mod Told
pub mod Typed
