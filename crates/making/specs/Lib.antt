pub mod Operators
pub mod Levels
pub mod Pairs
pub mod Spans
pub mod Negations
pub mod Projections
