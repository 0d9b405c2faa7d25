-- Document 01, "The sheet", as bytes.
pub mod Layout
