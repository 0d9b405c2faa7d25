-- What an index says of a key, and that it tells what becomes of a header that goes by it.
pub mod Found
pub mod FoundLaws
