-- The value of a controlling expression.
--     Constants      integer and character constants
--     Lexemes        what each token is in an expression
--     Arithmetic     operators on 64 bits
--     Making         what expressions are made of
--     Expressions    expressions, their nesting and their value
--     Reading        the expression that lexemes spell
--     Grammar        the grammar as a relation, and that what is read is what it spells
--     Value          all of it together, with the first error
--     parts          helpers of contracts, on which none of these rests
pub mod Constants
pub mod Lexemes
pub mod Arithmetic
pub mod Making
pub mod Expressions
pub mod Reading
pub mod Grammar
pub mod Value
pub mod parts
