-- The call that plans a board.
pub mod Calls
pub mod CallsLaws
