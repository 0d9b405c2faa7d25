-- Theorems on the definitions of specs/, and lemmas.
pub mod AskedLaws
pub mod Examples
pub mod HistoryLaws
pub mod LedgerLaws
pub mod NumberLaws
pub mod PlacesLaws
pub mod SentencesLaws
pub mod StandingLaws
pub mod StepLaws
pub mod WordsLaws
