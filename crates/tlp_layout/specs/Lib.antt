-- A packet's bytes: document 01's header layout.
pub mod Layout
pub mod LayoutLaws
pub mod LayoutBytes
