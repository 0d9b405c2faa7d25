-- Theorems on the definitions of specs/, and lemmas.
pub mod ByIdLaws
pub mod Examples
pub mod NumberLaws
pub mod PromiseLaws
