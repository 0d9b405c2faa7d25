-- Theorems on the definitions of specs/, and lemmas.
pub mod AllBytes
pub mod LayoutLaws
pub mod ReadBack
