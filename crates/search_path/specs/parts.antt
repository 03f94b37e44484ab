-- Helpers of contracts: no definition in the folder above rests on them.
--     Steps  how the search goes on, in the words of the code
pub mod Steps
