-- A packet as twenty numbers: what each number is.
pub mod Numbers
pub mod NumbersLaws
