-- Theorems on the definitions of specs/, and lemmas.
pub mod Answered
pub mod BarsLaws
pub mod CountLaws
pub mod FitsLaws
pub mod IdsLaws
pub mod IndexLaws
pub mod InsertLaws
pub mod LineLaws
pub mod OwnedLaws
pub mod PassLaws
pub mod PoolsLaws
pub mod SearchLaws
pub mod WordLaws
