-- Theorems on the definitions of specs/, and lemmas.
pub mod CapLaws
pub mod FunctionLaws
pub mod JoinLaws
pub mod KeptLaws
pub mod LoopLaws
pub mod PassLaws
pub mod WordLaws
