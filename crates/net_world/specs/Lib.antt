-- Traces, and what holds of them.
pub mod Setup
pub mod Trace
pub mod Holders
pub mod Claims
pub mod Passes
pub mod Frames
pub mod InRange
pub mod FrameLaws
-- Worlds, and what holds of them.
pub mod Happenings
pub mod Changes
pub mod Writes
pub mod Contents
pub mod Checks
pub mod Barred
pub mod Outcomes
pub mod World
pub mod WorldLaws
pub mod Exact
pub mod Reported
pub mod Honest
-- The headline.
pub mod Headline
pub mod Started
-- A world that runs.
pub mod Events
pub mod PutIn
pub mod Stands
pub mod Sending
pub mod Ends
-- Calls inside a world that runs: no public contract cites these.
pub mod Nodes
pub mod ServerNodes
pub mod ClientAnswers
pub mod ClientNodes
pub mod MirrorNodes
pub mod Serving
pub mod Asking
pub mod Telling
pub mod Finding
pub mod Delivering
pub mod Opened
-- Examples.
pub mod Examples
pub mod MirrorExamples
