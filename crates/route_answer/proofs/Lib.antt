-- Theorems on the definitions of specs/, and lemmas.
pub mod ListedLaws
pub mod NumberLaws
pub mod OnwardLaws
