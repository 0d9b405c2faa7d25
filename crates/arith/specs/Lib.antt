-- Cases on numbers and on tests, powers of two, alignment; and their laws.
pub mod Order
pub mod BoolLaws
pub mod Powers
pub mod Align
pub mod PowersLaws
pub mod AlignLaws
