-- Helpers of contracts: no definition in the folder above rests on them.
--     Seen  what the code keeps of an expression
pub mod Seen
