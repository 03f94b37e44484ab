-- What the directives of a file are, and how they nest.
--     Directives    the pieces of a file: runs of text lines, and directives
--     Gathered      how the pieces of a file come together, line by line
--     Spots         where the pieces of a file lie in its lexed form
--     HeaderNames   the header name that expanded tokens give
--     Operands      the operands of `__has_include` on the line of a condition
--     Names         what a directive is by its name
--     Groups        how pieces nest, and what is wrong where they don't
--     parts         helpers of contracts, on which none of these rests
pub mod Directives
pub mod Gathered
pub mod HeaderNames
pub mod Operands
pub mod Names
pub mod Groups
pub mod Spots
pub mod parts
