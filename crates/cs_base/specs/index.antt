pub mod GapCode
