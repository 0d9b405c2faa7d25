-- Theorems on the definitions of specs/, and lemmas.
pub mod FeedLaws
pub mod TraceLaws
