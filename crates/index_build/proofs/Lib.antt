-- Theorems on the definitions of specs/, and lemmas.
pub mod BuildLaws
pub mod BuiltLaws
