-- Theorems on the definitions of specs/, and lemmas.
pub mod CheckLaws
pub mod CommandsLaws
pub mod Examples
pub mod FrameLaws
pub mod IndexLaws
pub mod LookupLaws
pub mod NumberLaws
pub mod PlaceLaws
pub mod ReadSoFarLaws
pub mod RecordIdLaws
pub mod RulesLaws
pub mod SheetLaws
