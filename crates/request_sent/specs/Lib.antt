-- Document 03, E15: what was asked for, in the request's sentences, and its proof.
pub mod BothEnds
pub mod Follows
