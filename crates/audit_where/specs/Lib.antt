-- Who fails an audit, in the words of the code.
pub mod Under
pub mod UnderLaws
pub mod WhereLaws
