-- Helpers of contracts: no definition in the folder above rests on them.
--     Stored   the sheet that stored parts are, and how it grows piece by piece
--     Counted  how the tokens of definitions are counted, line by line
pub mod Stored
pub mod Counted
