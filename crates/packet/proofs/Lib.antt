-- Theorems on the definitions of specs/, and lemmas.
pub mod NumberLaws
pub mod Patterns
pub mod RulesLaws
pub mod VerdictLaws
pub mod WidthsLaws
