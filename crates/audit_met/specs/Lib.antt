-- One record and another, in the words of the code.
pub mod Met
pub mod MetLaws
