-- The boot's write script: a plan as configuration writes, and their bytes.
pub mod Writes
pub mod Script
pub mod ScriptLaws
pub mod Wrote
