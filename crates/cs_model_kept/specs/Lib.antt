pub mod Due
pub mod Entries
pub mod InnerQueries
pub mod KeptLaws
pub mod KeptList
pub mod KeptListLaws
pub mod Sharp
