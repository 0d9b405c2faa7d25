-- Document 02, E8: what the program prints, and a sheet indexed.
pub mod Program
pub mod Indexed
pub mod ProgramLaws
