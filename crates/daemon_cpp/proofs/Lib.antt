-- Lemmas on preprocessing.
--     Shown        what is shown of a list, one member more
--     Searches     what was searched in the told tree
--     Limits       more output, within the limit or past it
--     Steps        steps one after another, by what is kept before and behind them
--     Markers      output of one event
--     Including    includes, by what is kept before and behind them
--     Marks        the files that are read once, one more
--     Moving       what the pieces of a file lead to, by the same
--     Texts        runs of text, expanded and laid out
--     Defines      definitions, as steps
--     Lines        the numbers of line directives
--     Conditions   what the steps of conditions lead to
--     Controlled   a condition's line, read token by token as it is expanded
--     Judged       what a line says that was read so is what its tokens say
--     KnownFiles   what is kept of the files that were lexed, one more
--     Flat         pieces one after another are groups
--     Skipping     pieces that aren't read
--     Sections     where an if-section goes on
--     Fewer        the pieces of a file are few
--     Openings     what opening a file leads to
--     Frames       what is left to read of the files around the one that is read
--     Readers      the same as the code keeps it, through each of its steps
--     Jobs         what is told of a job from its parts
pub mod Shown
mod Searches
pub mod Limits
pub mod Steps
mod Markers
mod Including
mod Marks
mod Moving
pub mod Texts
pub mod Defines
pub mod Lines
pub mod Conditions
pub mod Controlled
pub mod Judged
pub mod KnownFiles
pub mod Flat
pub mod Skipping
pub mod Sections
pub mod Fewer
mod Openings
mod Frames
mod Readers
mod Jobs
