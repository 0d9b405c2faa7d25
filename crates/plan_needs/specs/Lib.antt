-- What a board needs of its host: where pools are laid out from (Bases), what is needed (Needs), the same from what sizing kept of the root
-- bus (Measured), and that it is exact (NeedsLaws).
pub mod Bases
pub mod Needs
pub mod Measured
