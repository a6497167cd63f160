pub mod Encoded
pub mod Ends
pub mod Filled
pub mod LinesPut
pub mod NameUnits
pub mod UnitPlaces
