-- A lawful board's functions as three arrays, which sizing takes, and the bridges before each function.
pub mod Tables
pub mod TablesLaws
pub mod Counts
pub mod CountsLaws
pub mod FilledLaws
