-- Words of the program's parts.
--     Counting    the counts of a run of text
--     Said        what the tokens of a file say
pub mod Counting
pub mod Said
