-- What becomes of a packet, as the numbers of a call's answer.
pub mod Routing
