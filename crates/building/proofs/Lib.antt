pub mod Cutting
pub mod Measuring
pub mod Stacking
pub mod Lowering
pub mod Staying
pub mod Walking
pub mod Looking
