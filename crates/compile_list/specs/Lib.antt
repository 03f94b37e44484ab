-- The compile list of the top call.
--     Listed     the jobs that its bytes ask for
--     parts      helpers of contracts, on which none of these rests
pub mod Listed
pub mod parts
