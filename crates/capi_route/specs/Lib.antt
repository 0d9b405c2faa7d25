-- The call that walks a header over a sheet.
pub mod Calls
pub mod CallsLaws
