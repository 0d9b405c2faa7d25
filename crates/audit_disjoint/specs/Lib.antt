-- 52 in the words of the code, and its laws.
pub mod Disjoint
pub mod DisjointLaws
