pub mod Histories
pub mod Keys
pub mod Memos
pub mod Ranges
pub mod Values
