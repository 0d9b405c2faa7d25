-- Theorems on the definitions of specs/, and lemmas.
pub mod Accepted
pub mod Answer
pub mod BarRanges
pub mod Delivery
pub mod FitsLaws
pub mod Nodes
pub mod Passes
pub mod Registers
pub mod Rising
pub mod Shaped
pub mod Starts
pub mod Values
pub mod WindowRanges
pub mod Windows
