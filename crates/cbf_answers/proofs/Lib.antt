pub mod Stores
pub mod Rooms
pub mod LimitLaws
