-- Helpers of contracts: no definition in the folder above rests on them.
--     Parts  reading a request, and putting the reply
pub mod Parts
