-- Document 03, E15: what becomes of a packet from its sender; then what the code asks of a sheet, and the laws of each step.
pub mod BothEnds
pub mod Going
pub mod Examples
