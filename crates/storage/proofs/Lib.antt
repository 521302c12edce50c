pub mod Accepted
pub mod Bare
pub mod Figures
pub mod Long
pub mod Lowest
pub mod NumberKeys
pub mod OwnPair
pub mod Places
