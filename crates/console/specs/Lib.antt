-- That reading comes to an end.
pub mod Console
