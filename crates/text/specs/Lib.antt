pub mod Data
pub mod Items
pub mod Refusals
pub mod Tree
pub mod Reads
pub mod Show
