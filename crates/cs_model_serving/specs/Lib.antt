pub mod Connections
pub mod Framing
pub mod HeadReader
pub mod Heads
pub mod Responses
pub mod ServingLaws
