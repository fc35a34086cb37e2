pub mod Readings
pub mod Deeds
pub mod Entries
