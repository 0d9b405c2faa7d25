-- Document 03, E15: what the program that tells both ends of a trace prints.
pub mod Program
pub mod ProgramLaws
