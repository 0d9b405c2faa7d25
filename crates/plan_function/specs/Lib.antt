-- One function of a board placed from the cursors of its bus. First the definitions: a record's registers, one function, the pass; then the
-- laws.
pub mod Registers
pub mod Function
pub mod Pass
pub mod Kept
