pub mod States
pub mod Settling
pub mod Lives
