pub mod Sample
