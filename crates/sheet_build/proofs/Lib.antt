-- Lemmas for the sheets of files.
--     PlaceLaws   a place leads to its file
--     Adding      how sheets grow
--     Bodies      the sheet of a file that isn't too large
--     Capped      sums that stop at a top
--     Counting    the tokens of definitions, counted piece by piece
--     Parameters  those of function-like macros with plain parameters
--     DirectivesAlone   a sheet comes of directives alone
--     AskingLines       and what it asks for of less
pub mod PlaceLaws
pub mod Adding
pub mod Bodies
pub mod Capped
pub mod Counting
pub mod Parameters
pub mod DirectivesAlone
pub mod AskingLines
