-- The planner: what its first passes measure of a board, the number that follows, and that the sheet is then placed as the rule says.
pub mod Measure
pub mod FilledLaws
pub mod MeasureLaws
pub mod RoomLaws
pub mod PlanLaws
