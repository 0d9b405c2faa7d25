-- Document 01: one record of the register sheet: its places, what it says, and its ranges in an address space; then their laws.
pub mod Places
pub mod Entry
pub mod Spaces
pub mod SpacesLaws
pub mod EntryLaws
