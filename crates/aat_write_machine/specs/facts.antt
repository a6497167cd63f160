pub mod Entries
pub mod LongPlaces
pub mod WordPlaces
pub mod Written
