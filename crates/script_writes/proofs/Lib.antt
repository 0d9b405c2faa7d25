-- Theorems on the definitions of specs/, and lemmas.
pub mod ScriptLaws
pub mod WritesLaws
pub mod Wrote
