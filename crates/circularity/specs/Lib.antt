pub mod Bits
pub mod Faults
pub mod Verdict
pub mod Working
