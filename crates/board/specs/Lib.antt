-- Document 01, "The board, house format".
pub mod Board
pub mod Pass
pub mod ToPlacing
pub mod Examples
