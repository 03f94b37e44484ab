-- Definitions that every crate cites.
--     Causes     when an object of the outside may answer a fault
--     Told       contents that an object may tell
--     Members    membership, by cases on the list
--     Calls      calls of an object in memory that fail where a list says so
--     Limits     the limits of a run, each under one name
--     Ascii      names for bytes
--     parts      helpers of contracts, on which none of these rests
pub mod Causes
pub mod Told
pub mod Members
pub mod Calls
pub mod Limits
pub mod Ascii
pub mod parts
