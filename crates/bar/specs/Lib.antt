-- Document 01, "Read-backs", and BAR values on a sheet (25).
pub mod Header
pub mod Bar
pub mod Values
pub mod SizeLaws
pub mod BarLaws
pub mod ValuesLaws
pub mod PlacedLaws
pub mod Examples
pub mod Walk
pub mod WalkLaws
