-- The calls on a ledger of open requests: what each returns and what the ledger then holds; that a refused one changes nothing.
pub mod Calls
pub mod CallsLaws
pub mod Refused
