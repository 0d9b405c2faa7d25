-- 52 of one record and another, in the words of the code.
pub mod Meeting
pub mod MeetingLaws
