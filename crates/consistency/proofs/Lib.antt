pub mod Carrying
pub mod Untouched
pub mod Calls
pub mod Outside
