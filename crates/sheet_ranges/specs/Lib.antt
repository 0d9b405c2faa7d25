-- A record's ranges and a host's: the definition and its laws, and that the walk's items are these (FunctionsLaws); then ranges as numbers
-- in a slice: how they stand there, the laws of putting them there and of going over them.
pub mod Ranges
pub mod RangesLaws
pub mod FunctionsLaws
pub mod Items
pub mod ItemsLaws
pub mod BarsLaws
pub mod SearchLaws
