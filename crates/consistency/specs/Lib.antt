pub mod Consistent
pub mod Keeping
