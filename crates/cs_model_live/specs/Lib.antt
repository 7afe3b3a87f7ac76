pub mod Courses
pub mod LiveLines
pub mod LiveStates
