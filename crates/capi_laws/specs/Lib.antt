-- What holds of the C boundary's calls together: that a refused call changes nothing, that 0 is returned just where a call is accepted, the
-- round trip through twenty numbers, that a header is judged as it is read, that an index answers as its sheet does, and worked examples.
pub mod Examples
pub mod Refused
pub mod Numbered
pub mod RoundTrip
pub mod Judged
pub mod Found
pub mod Labelled
