pub mod Forests
mod Wholes
pub mod Sayings
mod Limited
