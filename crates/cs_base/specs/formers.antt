pub mod content
