-- Theorems on the definitions of specs/, and lemmas.
pub mod Examples
pub mod ListedLaws
pub mod NumberLaws
pub mod OrderLaws
pub mod RequestLaws
pub mod RouteLaws
