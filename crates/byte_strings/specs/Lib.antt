pub mod Bytes
pub mod StringOrder
pub mod Texts
