-- Document 02, E6, 50 in the words of the code: a function's way up, and two bridges of one bus.
pub mod TreeLaws
