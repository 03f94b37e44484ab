-- Lemmas.
--     Totals    sums over lists that change at one place
--     Keeps     each step keeps the rule of the table
pub mod Totals
pub mod Keeps
