pub mod Causes
pub mod FailingCalls
pub mod HeldFiles
pub mod Hub
pub mod InMemory
pub mod Outside
pub mod ScriptParts
pub mod ScriptedHub
