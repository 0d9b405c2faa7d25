-- Theorems on the definitions of specs/, and lemmas.
pub mod Examples
pub mod WindowLaws
