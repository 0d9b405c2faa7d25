-- The second verdict and the index of a sheet of which no host is told.
pub mod Alone
