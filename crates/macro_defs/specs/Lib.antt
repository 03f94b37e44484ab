-- Macro definitions and tables of them (ISO C 6.10.3).
--     MacroDefinition    what a definition means
--     Runs               what a run of tokens still has
--     Sameness           when two definitions are the same
--     Arguments          which argument a token of a replacement list stands for
--     Defining           what a `#define` line defines, or the first thing that is wrong with it
--     Table              which definition each name has
--     parts              helpers of contracts, on which none of these rests
pub mod MacroDefinition
pub mod Runs
pub mod Sameness
pub mod Arguments
pub mod Defining
pub mod Table
pub mod parts
