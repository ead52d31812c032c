pub mod Lanes
pub mod Kits
pub mod Ends
pub mod Rooms
