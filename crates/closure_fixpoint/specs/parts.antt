-- Helpers of contracts: no definition in the folder above rests on them.
--     Bodies, Seen, Worklist, Walked, AskKeys, Wanting, Plan  helpers of the code
pub mod Bodies
pub mod Seen
pub mod Worklist
pub mod Walked
pub mod AskKeys
pub mod Wanting
pub mod Plan
