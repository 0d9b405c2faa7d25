-- What document 01 says of a packet's fields, whatever the bytes.
pub mod Fields
pub mod Widths
pub mod Rules
pub mod RulesLaws
pub mod Verdict
