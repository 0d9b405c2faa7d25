-- An index that is built: its number and its bytes, the laws in the words of the code, and that its search is the router.
pub mod Build
pub mod BuildLaws
