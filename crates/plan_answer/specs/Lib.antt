-- Document 01's plan: the placing rule's registers, and the sheet as their layout.
pub mod Plan
pub mod NumberLaws
