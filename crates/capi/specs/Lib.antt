-- The C boundary: the version of its calls. What each call answers stands with the crate that it is in.
pub mod Calls
