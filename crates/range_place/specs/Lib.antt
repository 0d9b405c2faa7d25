-- The search for a place, turn by turn, in the words of the code.
pub mod PlaceLaws
pub mod TurnsLaws
