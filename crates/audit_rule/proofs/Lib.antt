-- Theorems on the definitions of specs/, and lemmas.
pub mod AcceptedLaws
pub mod AuditLaws
pub mod DisjointLaws
pub mod Examples
pub mod InsideLaws
pub mod LeadersLaws
pub mod NestedLaws
pub mod PairLaws
pub mod PassLaws
pub mod TreeLaws
