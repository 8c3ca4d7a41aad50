pub mod Readings
pub mod Rows
pub mod Rules
pub mod Operations
pub mod Table
pub mod Keeping
pub mod Meaning
pub mod Examples
