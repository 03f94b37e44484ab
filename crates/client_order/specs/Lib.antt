-- Runs of several clients.
--     Ran          what the clients of a run did, whatever the order of their steps; the totals; three bounds
--     parts        helpers of contracts, on which none of these rests
pub mod Ran
pub mod parts
