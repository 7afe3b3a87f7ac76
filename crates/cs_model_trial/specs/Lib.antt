pub mod Generator
pub mod Sessions
pub mod Summary
