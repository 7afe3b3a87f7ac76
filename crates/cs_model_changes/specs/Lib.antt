pub mod Changes
pub mod Joined
