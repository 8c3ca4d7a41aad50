pub mod Scope
pub mod Figures
pub mod Rules
pub mod Table
pub mod TableLimits
