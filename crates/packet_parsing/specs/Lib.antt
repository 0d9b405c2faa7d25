-- What numbers are taken for a packet, and that a packet's own numbers are taken for it and the numbers of what is taken are the same.
pub mod Parsing
pub mod Fields
pub mod ParsingLaws
pub mod RoundTrip
pub mod RefusedLaws
