-- The calls on both ends of a packet: what they answer, in the words of the code, and that no refusal has the number 0.
pub mod Calls
pub mod CallsLaws
pub mod Numbered
