-- Helpers of contracts: no definition in the folder above rests on them.
--     Flagged  what the flags so far give
pub mod Flagged
