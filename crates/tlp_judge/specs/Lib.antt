-- The messages that byte 0 tells, and what passes a judge's branches.
pub mod Messages
pub mod JudgeLaws
pub mod Fitting
