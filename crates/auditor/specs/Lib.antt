-- The audit of a sheet: its last three checks, and in the words of the code one law for each answer.
pub mod Checks
pub mod AuditorLaws
