pub mod kerx
pub mod morx
