-- Theorems on the definitions of specs/, and lemmas.
pub mod FirstLaws
pub mod KindLaws
pub mod PairsLaws
