-- Helpers of contracts: no definition in the folder above rests on them.
--     Parts    what one token of a replacement list stands for
--     Placing  one token of a replacement as it is put in for a name
--     Pieces   what code's values mean where a replacement's pieces are made
--     Tries    hide sets as tries over the bits of their names' hashes
--     Pasting  how code joins pieces one by one
--     Reading  how code reads the operand of `defined` and a call, token by token
--     Naming   what code reads of a name
--     Steps    what one step of an expansion puts out, and what is to come
--     Stamps   what the stamp of a token says of its hide set
pub mod Parts
pub mod Pieces
pub mod Placing
pub mod Reading
pub mod Naming
pub mod Pasting
pub mod Tries
pub mod Steps
pub mod Stamps
