-- Jobs: what is read from a working directory and compile words.
--     parts    helpers of contracts, on which none of these rests
pub mod JobOf
pub mod Macros
pub mod Words
pub mod FirstWords
pub mod Keys
pub mod parts
