-- A line of text as a state that each byte moves on, and what a line says.
pub mod Lines
pub mod LinesLaws
pub mod Examples
