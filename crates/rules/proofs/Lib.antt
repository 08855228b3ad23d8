mod Named
mod Reaches
pub mod Readings
mod Keys
