-- Theorems on the definitions of specs/, and lemmas.
pub mod Copying
pub mod Delivered
pub mod Ends
pub mod Nodes
pub mod Order
pub mod Planned
pub mod RunLaws
pub mod Safe
pub mod StateLaws
pub mod Unused
pub mod Written
