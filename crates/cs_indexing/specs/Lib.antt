pub mod Build
pub mod CommandLine
pub mod Filed
pub mod Import
pub mod Merge
pub mod Met
pub mod Upgrade
pub mod Views
