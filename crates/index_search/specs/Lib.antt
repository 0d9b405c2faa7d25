-- Document 02, E8: the search by an index, on any bytes; its answers in the words of the code; and that it answers as the router does where
-- the index is one of the router's sheet.
pub mod Search
pub mod AnswerLaws
pub mod SearchLaws
pub mod NumberLaws
