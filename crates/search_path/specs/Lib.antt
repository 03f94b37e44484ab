-- The search for a source, a forced file or an included file.
--     SetupOf    what a job's words say of its searches
--     Asks       what is asked for, by its name
--     Search     the places of a search, in order, and the file that it finds
--     Laws       laws of searches
--     parts      helpers of contracts, on which none of these rests
pub mod SetupOf
pub mod Asks
pub mod Search
pub mod Laws
pub mod Keys
pub mod parts
