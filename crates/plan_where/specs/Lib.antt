-- What does not fit of a board: the finding (Finding); that the code's measure of the board tells it (MeasuredLaws); that the items named
-- are those that the words name (ItemLaws).
pub mod Finding
pub mod MeasuredLaws
pub mod ItemLaws
