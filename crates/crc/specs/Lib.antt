pub mod Crc
pub mod Table
pub mod Laws
