-- Document 02, E4: what the program prints, and a piece taken in parts.
pub mod Program
pub mod ProgramLaws
pub mod PartsLaws
