-- What a pass over the records inserts: the slots, then the laws of the pass in the words of the code.
pub mod Pass
pub mod PlacingLaws
pub mod BarsLaws
pub mod PassLaws
