-- Slots in a slice, and a slice with none; the laws of storing and reading them, of reading back what was stored, and of order.
pub mod Slots
pub mod Cleared
pub mod SlotsLaws
pub mod SortedLaws
pub mod ReadLaws
pub mod ClearedLaws
pub mod PlacedLaws
