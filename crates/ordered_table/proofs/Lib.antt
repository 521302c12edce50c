pub mod Edits
pub mod Outcomes
pub mod Places
