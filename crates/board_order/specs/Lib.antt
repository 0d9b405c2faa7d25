-- Document 01, "The board": depth-first order (23).
pub mod Order
pub mod OrderLaws
pub mod Stack
pub mod StackLaws
pub mod Levels
pub mod LevelsLaws
