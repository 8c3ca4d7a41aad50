pub mod Range
pub mod Figures
pub mod Operations
pub mod Table
pub mod Keeping
