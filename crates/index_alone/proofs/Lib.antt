-- Theorems on the definitions of specs/, and lemmas.
pub mod AloneLaws
