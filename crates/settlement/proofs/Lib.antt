pub mod Numerals
pub mod RowEnds
