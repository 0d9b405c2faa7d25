-- Document 01, "The walk", with document 02's messages: what becomes of a header over a sheet, and a broadcast's list; worked examples;
-- then the laws.
pub mod Route
pub mod Listed
pub mod Examples
