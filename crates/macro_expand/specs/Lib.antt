-- Macro expansion (ISO C 6.10.3).
--     Asking          what expansion asks while it runs
--     Replacement     the replacement of one macro call
--     Expansion       expansion of a list of tokens, as a tree of questions, and the result where a table answers
--     Answered        expansion where an answerer with a state answers
--     Choice          expansion under sets of definitions, by every choice among them
--     Sets            sets of names that code keeps as lists
--     Seen            what code's values mean
--     Stream          expansion that gives its tokens one after another
--     Laws            the laws of expansion, and its runs under sets of definitions
--     parts           helpers of contracts, on which none of these rests
pub mod Asking
pub mod Replacement
pub mod Expansion
pub mod Answered
pub mod Choice
pub mod Sets
pub mod Seen
pub mod Stream
pub mod Laws
pub mod parts
