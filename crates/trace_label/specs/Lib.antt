-- A header's label, and as the code holds it.
pub mod Label
pub mod Word
pub mod WordLaws
pub mod LabelLaws
