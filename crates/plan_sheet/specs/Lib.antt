-- The planned sheet as bytes. First what a board's bytes and checks give (Fits, FitsLaws, Rising, Accepted); then a plan's records (Starts,
-- Windows, Values, Shaped) and their ranges (WindowRanges, BarRanges); then the theorems that others cite: Registers, Passes, Delivery,
-- Answer.
pub mod Fits
pub mod Starts
pub mod Delivery
