-- Theorems on the definitions of specs/, and lemmas.
pub mod AuditLaws
pub mod CardToCardLaws
pub mod EmptySlotsLaws
pub mod FastLabelsLaws
pub mod MessagesLaws
pub mod OneSwitchLaws
pub mod OpenRequestsLaws
pub mod SoundLabelsLaws
pub mod SoundSheetsLaws
pub mod TraceLaws
pub mod WriteScriptLaws
