-- Helpers of contracts: no definition in the folder above rests on them.
--     Numbers  a number read digit by digit
pub mod Numbers
