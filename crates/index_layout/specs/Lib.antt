-- The places, the keys and the words of an index; a key's segment.
pub mod Places
pub mod Keys
pub mod Words
pub mod KeysLaws
