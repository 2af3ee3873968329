pub mod ShippedUnits
pub mod WithoutUnits
