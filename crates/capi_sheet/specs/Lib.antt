-- The calls on a sheet's function: its registers, its ID and its command word.
pub mod Calls
pub mod CallsLaws
