-- Theorems on the definitions of specs/, and lemmas.
pub mod BothEndsLaws
pub mod FollowsLaws
pub mod SendersLaws
