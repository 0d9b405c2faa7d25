-- Document 01, "The walk": the claims on one bus of a sheet; then what a search over its records and slots goes by.
pub mod Claims
pub mod Search
pub mod HitsLaws
pub mod TurnLaws
pub mod IdsLaws
pub mod RecordLaws
