-- Who a refusal is about: places in a record, parties, and the first element of a list that passes a test.
pub mod Places
pub mod First
pub mod FirstLaws
