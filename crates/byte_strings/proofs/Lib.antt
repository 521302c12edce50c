pub mod LongProbes
pub mod TotalOrder
