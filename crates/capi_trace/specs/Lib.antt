-- The calls on a trace at the C boundary: what they return and leave, that a refused one changes nothing, and that calls in a row are the
-- library's.
pub mod Calls
pub mod Examples
pub mod CallsLaws
pub mod Refused
pub mod Continued
