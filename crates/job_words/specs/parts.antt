-- Helpers of contracts: no definition in the folder above rests on them.
pub mod Told
