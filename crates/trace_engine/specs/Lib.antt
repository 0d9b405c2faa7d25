-- A record's line by one of three engines, and how long it may be.
pub mod Engine
pub mod EngineLaws
