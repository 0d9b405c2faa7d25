-- The calls that tell who fails an audit and what does not fit of a board: their answers, and those in the words of their code.
pub mod Calls
pub mod CallsLaws
