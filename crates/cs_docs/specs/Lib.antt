pub mod Lines
pub mod Listing
pub mod FacetPieces
pub mod LinesRead
pub mod FaultRefusals
