-- Document 01, "The walk": what a packet is looked for by, the rule of configuration types, and how it arrives.
pub mod Arrival
pub mod ArrivalLaws
