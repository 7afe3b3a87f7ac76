pub mod content
pub mod index
pub mod outside
pub mod formers
