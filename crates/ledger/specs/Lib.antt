-- The ledger of open requests, document 02's E12: words and places, the two calls, histories, and what stands open after them.
pub mod Words
pub mod WordsLaws
pub mod Ledger
pub mod AskedLaws
pub mod History
pub mod Kinds
pub mod Standing
pub mod Examples
