pub mod Chains
pub mod Files
pub mod Links
pub mod Seats
