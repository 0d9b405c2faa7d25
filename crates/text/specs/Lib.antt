-- Text put into lent bytes: what is stored, the next place, and a number's digits; hexadecimal digits read back; bytes kept piece by piece.
pub mod Text
pub mod TextLaws
pub mod Digits
pub mod Examples
pub mod Kept
pub mod KeptLaws
