-- The C boundary's call on a write script: what it returns and leaves, and that a refused one changes nothing.
pub mod Calls
pub mod CallsLaws
pub mod Refused
