-- Helpers of contracts: no definition in the folder above rests on them.
--     World      clients and what they share, between two turns
--     Answering  what the answer to a need does to what clients share
--     Merged     the records of all clients in order of job number
pub mod Answering
pub mod Merged
pub mod World
