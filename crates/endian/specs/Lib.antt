pub mod Endian
pub mod SetsLaws
pub mod BytesLaws
pub mod ByteOrder
pub mod EndianLaws
pub mod Examples
