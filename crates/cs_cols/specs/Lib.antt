pub mod Block
pub mod HeldPosts
pub mod Placed
pub mod Rooms
pub mod SpanPlaces
