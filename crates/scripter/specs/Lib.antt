-- The write script of a board: what the call answers, how many writes there are, the passes that write them, and the longest script.
pub mod Scripting
pub mod AnswerLaws
pub mod NumberLaws
pub mod Counting
pub mod CountingLaws
pub mod UnplacedLaws
pub mod PassLaws
pub mod CallLaws
pub mod LongestLaws
pub mod Examples
