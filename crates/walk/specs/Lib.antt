-- The walk of a packet, in reading order: definitions, then their laws, up to delivery.
pub mod Ranges
pub mod Registers
pub mod Tally
pub mod TallyLaws
pub mod Walk
pub mod Above
pub mod Good
pub mod Ids
pub mod Climb
pub mod Cards
pub mod Switch
pub mod CardExamples
pub mod Examples
