-- The fields of a header, each at its place in the bytes, and that the layout's bytes are these fields.
pub mod Fields
pub mod FieldsLaws
