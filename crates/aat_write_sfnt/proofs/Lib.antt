mod Appending
mod CharactersAgain
mod FeaturesAgain
mod FontAgain
mod NamesAgain
mod RecordPlaces
mod RisingRows
mod SettingCounts
mod TablesAgain
pub mod TrackDataAgain
pub mod TrackEntries
pub mod TrackWords
pub mod TrakAgain
