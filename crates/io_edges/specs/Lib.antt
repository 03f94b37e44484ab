-- What the objects of the outside tell and do.
--     Edges     contents that are read and written
--     Talk      the exchanges of a wire
--     Daemons   what an object in memory starts
pub mod Edges
pub mod Talk
pub mod Daemons
