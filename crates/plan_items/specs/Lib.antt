-- The items of a board: which runs out of its pool first, and before which most room is lost to alignment (Items); the walk over them as
-- the code makes it (Walk), and its laws for one record (WalkLaws).
pub mod Items
pub mod Walk
pub mod WalkLaws
-- The items of pieces, and of one record; what the walk over all of them has seen.
pub mod ItemsLaws
pub mod RecordLaws
pub mod SeenLaws
-- The loop over the records.
pub mod Loop
pub mod LoopLaws
