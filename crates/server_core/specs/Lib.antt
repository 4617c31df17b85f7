-- What came, and what it asks.
pub mod History
pub mod Inputs
pub mod Request
pub mod Texts
-- The words of a server.
pub mod Words
pub mod Run
pub mod Taken
pub mod Check
-- What a server answers.
pub mod Replies
pub mod Answers
pub mod OpenWrites
pub mod Hearing
pub mod FrameAnswers
pub mod Handles
pub mod Note
-- What holds of every list.
pub mod Laws
pub mod DueStart
pub mod OpenCheck
pub mod Accepted
pub mod Heard
pub mod Ranges
pub mod Bounds
pub mod Sent
pub mod Made
pub mod Memory
-- How a server stands for a list, and how its steps end.
pub mod Ends
pub mod HearingKind
pub mod FrameEnds
pub mod NodeKind
-- Calls inside a server, and what it keeps: no public contract cites these.
pub mod Kept
pub mod Inside
pub mod KeptCheck
pub mod InsideCheck
pub mod Framed
pub mod Stands
pub mod WordsAfter
pub mod InnerCalls
pub mod Follows
-- Examples.
pub mod Examples
