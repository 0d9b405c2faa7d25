-- Document 02, E4: pieces of a trace labelled over a sheet: what the loops go by.
pub mod LoopLaws
