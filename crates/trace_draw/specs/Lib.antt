pub mod ShownUnits
pub mod Shapes
pub mod Head
pub mod Rows
pub mod Served
pub mod Periods
pub mod Picture
pub mod Drawing
