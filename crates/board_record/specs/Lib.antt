-- Document 01, "The board, house format": its records.
pub mod Host
pub mod HostLaws
pub mod Function
pub mod FunctionLaws
pub mod Rules
