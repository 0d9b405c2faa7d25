-- Document 01: length-first records, by place in the bytes at hand and byte by byte, and how many there may be; bytes fed in pieces.
pub mod Limits
pub mod Records
pub mod RecordsLaws
pub mod Iterating
pub mod Frame
pub mod FrameLaws
pub mod Pieces
pub mod PiecesLaws
