-- Theorems on the definitions of specs/, and lemmas.
pub mod BasesLaws
pub mod MeasuredLaws
pub mod NeedsLaws
