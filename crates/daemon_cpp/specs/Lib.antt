-- Preprocessing a job over a tree of files.
--     Diagnostics    the words of diagnostics
--     Prep           preprocessing, as a recursion on the groups of a file and the depth left
--     parts          helpers of contracts, on which none of these rests
pub mod Diagnostics
pub mod Prep
pub mod parts
