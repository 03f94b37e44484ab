-- Helpers of contracts: no definition in the folder above rests on them.
--     Stored     how maps and sets of names are seen, and what a definition keeps
--     Kept       what a definition keeps of its form and its replacement list
--     NameMarks  the marks that tell of most names that a table never had them
pub mod Stored
pub mod Kept
pub mod NameMarks
