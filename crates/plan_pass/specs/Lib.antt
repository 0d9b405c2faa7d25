-- The placing pass, one record at a time.
pub mod Step
-- What the calls for one record answer together.
pub mod CallLaws
-- One record is the plan's.
pub mod StepLaws
-- The loop over the records.
pub mod Loop
pub mod LoopLaws
-- What an accepted board gives of it.
pub mod PreparedLaws
