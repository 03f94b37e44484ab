-- Expansion under sets of definitions (ISO C 6.10.2 paragraph 4).
--     Defined        the distinct definitions of each name
--     Found          what computed tokens may name, and the names that it rests on
--     Laws           the laws of runs under sets of definitions
--     Texts          sets of texts in order of their bytes
--     parts          helpers of contracts, on which none of these rests
pub mod Defined
pub mod Found
pub mod Laws
pub mod Texts
pub mod parts
