-- Helpers of contracts: no definition in the folder above rests on them.
--     Steps  what reading it comes to
pub mod Steps
