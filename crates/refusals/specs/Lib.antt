-- Documents 01 and 02, "Numbers given back": which numbers a refusal has, and how a law about them goes through tests in order.
pub mod Refusals
pub mod RefusalsLaws
