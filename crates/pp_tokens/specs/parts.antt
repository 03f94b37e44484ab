-- Helpers of contracts: no definition in the folder above rests on them.
--     Seen      what a lexed file's fields show
--     Gathered  what the lexer has gathered of a text so far
--     Pieces    what the reading of phases 1 and 2 tells of the rest of a body
--     Unpaired  what the lexer knows of quotes that have no partner
--     Literals  what opens a literal or a header name
--     Text      what the lexer's functions tell of a text
--     TextLines what is left of a file from a line of text on
pub mod Pieces
pub mod Literals
pub mod Unpaired
pub mod Gathered
pub mod Packed
pub mod Seen
pub mod Text
pub mod TextLines
