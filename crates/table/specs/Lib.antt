pub mod Entries
pub mod Graphs
pub mod Keys
pub mod Maps
pub mod Order
pub mod Outcomes
