-- Document 01, "The walk", with document 02's messages: what becomes of a packet, for all who route, and a broadcast's list; then the laws.
pub mod Routing
pub mod Listed
