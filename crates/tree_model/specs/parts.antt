-- Helpers of contracts: no definition in the folder above rests on them.
--     Remembered  the nodes that a tree remembers of another
--     Steps       how the steps of a program go on as a walk does
--     Glances     what two looks at a tree tell of a text
--     Shared      the nodes that walks share
--     Spelled     what the spelling of a path holds
--     Stored      the spelling that a path keeps
--     Placed      where the entries of a list stand
pub mod Steps
pub mod Glances
pub mod Remembered
pub mod Shared
pub mod Spelled
pub mod Stored
pub mod Placed
