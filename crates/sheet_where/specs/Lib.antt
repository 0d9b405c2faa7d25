-- The sheet's own checks, record by record, in the words of the code.
pub mod Own
pub mod OwnLaws
pub mod SlotsLaws
