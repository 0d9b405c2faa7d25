-- Who fails a board's own checks.
pub mod Where
pub mod PassLaws
pub mod NumberLaws
pub mod WhereLaws
