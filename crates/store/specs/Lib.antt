pub mod Maps
pub mod Rows
pub mod Slotted
pub mod Drafted
pub mod Clears
pub mod Copied
