-- Ranges under keys that rise and what follows for each two of them; then the ranges of 52 and the buses of 50 under keys.
pub mod Rising
pub mod RisingLaws
pub mod Spots
pub mod SpotsLaws
pub mod PassLaws
