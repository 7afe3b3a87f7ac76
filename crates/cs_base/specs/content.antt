pub mod Bases
pub mod Bytes
pub mod Members
pub mod Orders
pub mod WordForms
