pub mod Effect
pub mod Places
pub mod Rows
pub mod Seen
pub mod Standing
pub mod Steps
pub mod Tests
pub mod Tickets
