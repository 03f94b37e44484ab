-- Lemmas.
--     Chains          the candidates of the chain, one by one
--     Searches        the candidates of each form
--     FirstLocated    the first candidate that locates a file
pub mod Chains
pub mod Searches
pub mod FirstLocated
