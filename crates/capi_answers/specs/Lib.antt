-- A call's answer and the slice it goes into: what is returned, what the slice then holds, that a refused call keeps it, and what 0 says.
pub mod Answers
