-- Lemmas.
--     WordNumbers    the number that a word says
--     Parts          the numbers between commas, one after another
--     Pairs          a flag and its word, taken off the words in front
--     AllWords       an order and flags behind the command
pub mod WordNumbers
pub mod Parts
pub mod Pairs
pub mod AllWords
