-- Theorems on the definitions of specs/, and lemmas.
pub mod ByIdLaws
pub mod Demand2
pub mod Demand3Laws
pub mod Examples
pub mod RoutedLaws
