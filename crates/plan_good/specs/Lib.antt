-- Planned boards over registers. First the definitions (Spaces, Boards, Registers, Delivery, ById); then the laws by subject; then the
-- theorems that others cite: PlannedGood, AboveLaws, DeliveryLaws, NestedAndApart, RefusedExactly, Ids, ByIdLaws.
pub mod Spaces
pub mod Boards
pub mod Registers
pub mod Delivery
pub mod ById
pub mod BusRanges
pub mod NestedAndApart
pub mod SpareBuses
pub mod SpareRoom
pub mod Ids
pub mod Examples
