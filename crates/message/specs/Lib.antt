pub mod Messages
pub mod Bytes
pub mod Changes
pub mod Numbers
pub mod Stream
pub mod Laws
