-- Document 01, "Numbering and placing": the planner's sizing of buses and bridges, in 64 bits.
pub mod Functions
pub mod FunctionsLaws
pub mod Cut
pub mod CutLaws
pub mod Memo
pub mod MemoLaws
pub mod Board
pub mod BusLaws
pub mod BridgeLaws
pub mod BoardLaws
pub mod Examples
