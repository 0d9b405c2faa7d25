-- Spans that hold all ranges taken so far, and the laws of adding one.
pub mod Spans
pub mod SpansLaws
