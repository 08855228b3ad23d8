pub mod Says
pub mod Limits
pub mod Trees
pub mod Whole
pub mod Limited
