-- Theorems on the definitions of specs/, and lemmas.
pub mod BoardLaws
pub mod Depth
pub mod Examples
pub mod NumberLaws
pub mod PassLaws
pub mod PlaceLaws
pub mod ToPlacingLaws
