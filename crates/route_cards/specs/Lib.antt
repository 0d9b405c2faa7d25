-- Document 02, E11, "Card to card", over bytes: the definition, what the search asks of a record, worked examples, then the laws.
pub mod Sending
pub mod Search
pub mod Examples
pub mod RecordLaws
pub mod HoldsLaws
pub mod AboveLaws
pub mod StepLaws
pub mod RequestLaws
pub mod NumberLaws
