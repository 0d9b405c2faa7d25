-- What a write script does, in reading order.
pub mod Model
pub mod Run
