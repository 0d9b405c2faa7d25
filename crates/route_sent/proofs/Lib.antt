-- Theorems on the definitions of specs/, and lemmas.
pub mod AboveLaws
pub mod Examples
pub mod FunctionLaws
pub mod NumberLaws
pub mod RequestLaws
pub mod StepLaws
