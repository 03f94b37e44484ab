-- What a source file's preprocessing tokens are.
--     Grammar     which texts are preprocessing tokens, and of which kind
--     Phases      translation phases 1 and 2: the characters of a file, each with its physical line
--     Lined       a text as the lexer has it after phases 1 and 2, with the places of its splices
--     Lines       translation phase 3: the logical lines of tokens
--     DirectiveLines  the directives of a file alone
--     Slices      where the tokens of a file stand in its text
--     Tokens      owned and borrowed tokens
--     Excerpts    tokens of a file on their way to a copy of its text
--     Marks       the tests of tokens that directives and macros are read by
--     Plain       plain bodies and simple names
--     parts       helpers of contracts, on which none of these rests
pub mod Grammar
pub mod Phases
pub mod Lined
pub mod Lines
pub mod DirectiveLines
pub mod Slices
pub mod Tokens
pub mod Excerpts
pub mod Marks
pub mod Plain
pub mod parts
