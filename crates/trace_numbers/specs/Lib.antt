-- A trace's state as six numbers and back: what each number is, what numbers are taken for a state, that the two agree, and that a state
-- stays within its bounds as it is fed.
pub mod Numbers
pub mod Parsing
pub mod NumbersLaws
pub mod RoundTrip
