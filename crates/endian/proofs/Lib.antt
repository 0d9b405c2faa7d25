-- What the stores rest on.
pub mod StoreLaws
