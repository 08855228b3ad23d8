pub mod Amongs
pub mod Entries
pub mod Meetings
pub mod Orders
pub mod Places
pub mod Walks
