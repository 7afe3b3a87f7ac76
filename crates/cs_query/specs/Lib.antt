pub mod Following
pub mod ParamNames
pub mod Printing
pub mod RequestView
