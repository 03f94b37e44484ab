-- Helpers of contracts: no definition in the folder above rests on them.
--     Stored       how sets of definitions are kept
--     Enumeration  all complete runs, one after the other, by lists of numbers
--     Choosing     who answers in one of them
--     Search       what runs find together
pub mod Enumeration
pub mod Choosing
pub mod Search
pub mod Stored
