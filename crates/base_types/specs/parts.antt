-- Helpers of contracts: no definition in the folder above rests on them.
--     Stored  where lists of bytes are kept
pub mod Stored
