pub mod Grammar
pub mod Text
pub mod Limits
pub mod LimitsByTest
pub mod Tree
pub mod Dependence
pub mod Circularity
pub mod Values
