-- Helpers of contracts: no definition in the folder above rests on them.
--     Drawn  what each seat knows, and what holds of the word that counts and of all seats
pub mod Drawn
