-- Document 01: a bridge's windows as registers and as ranges.
pub mod Window
pub mod Examples
