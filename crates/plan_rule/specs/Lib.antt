-- Numbering and placing of a board in whole numbers. First the definitions, in the order of the house rules; then the laws; then the
-- theorems that others cite: Placed, RefusalLaws, Numbered, SizingLaws, Cap, Siblings, Preorder, AboveLaws.
pub mod Pools
pub mod Records
pub mod Layout
pub mod Pieces
pub mod Placing
pub mod Numbering
pub mod Refusals
pub mod Sizing
pub mod Above
pub mod Examples
pub mod Cap
pub mod Siblings
pub mod Preorder
