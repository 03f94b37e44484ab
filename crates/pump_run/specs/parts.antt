-- Helpers of contracts: no definition in the folder above rests on them.
--     Steps  what the parts of a run come to
pub mod Steps
