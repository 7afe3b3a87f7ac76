pub mod Asking
pub mod Keeping
pub mod Loose
pub mod HeldRanges
pub mod Finding
