-- Who fails an audit. First the definitions: the records with their numbers and their BARs and windows with their places (Placed), what is
-- asked of each record, where it fails and whom it meets (Fails, Where), the finding (Finding); then the theorems.
pub mod Placed
pub mod Fails
pub mod Where
pub mod Finding
pub mod PlacedLaws
pub mod FailsLaws
pub mod WhereLaws
pub mod FindingLaws
pub mod Spots
pub mod Zipped
pub mod Examples
