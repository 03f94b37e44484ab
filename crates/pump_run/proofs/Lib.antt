-- Lemmas.
--     Lines       the lines of refusals
--     Counted     what the words ask of ends that are seen
--     Still       ends that nothing was done at
--     Refused     runs that are refused before their jobs
--     FirstEnds   the ends of the clients, and those behind them
--     Beyond      the ends beyond those of the clients
--     Calm        runs in which nothing failed
--     Ran         runs that did their jobs
--     ServedAll   exchanges that daemons answered
pub mod Lines
pub mod Counted
pub mod Still
pub mod Refused
pub mod FirstEnds
pub mod Beyond
pub mod Calm
pub mod Ran
pub mod ServedAll
