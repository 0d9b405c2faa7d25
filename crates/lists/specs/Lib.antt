-- What is said of lists, and the laws.
pub mod Lists
pub mod ListLaws
pub mod KeepLaws
