-- A tree of files and the jobs over it, made from a number.
--     Generated   the nodes, their texts, and the lines of the jobs
pub mod Generated
