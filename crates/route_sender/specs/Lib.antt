-- Document 03, E15, "The sender": the definition, its steps in the words of the code, and what each sentence says of it.
pub mod Sender
pub mod SenderLaws
pub mod NamedLaws
