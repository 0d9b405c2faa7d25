-- The BARs that a set of read-backs holds, for the placing rule.
pub mod Bars
pub mod BarsLaws
