pub mod Switched
