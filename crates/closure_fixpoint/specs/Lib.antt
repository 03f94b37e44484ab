-- The analysis of a job: the files that preprocessing it may visit, found without preprocessing, and what is sent of them.
--     Closed       the least closed set under rules that depend on the set
--     Closure      the closure of a job's visits, the searches that are known there, and the refusals met there
--     Analysis     the nodes of a job, the entries and the request that are sent, and when a refusal holds
--     Laws         each job has one closure
--     Progress     what an analysis was told so far, and what its answers mean
--     Told         what is asked for next, and what is told
--     Requested    what is made of its end: the request of a closure
--     Asked, Targets, Naming, Gathering, Driving      helpers of the code
--     parts                                           helpers of contracts, on which none of these rests
pub mod Closed
pub mod Closure
pub mod Analysis
pub mod Laws
pub mod Progress
pub mod Told
pub mod Asked
pub mod Targets
pub mod Naming
pub mod Gathering
pub mod Driving
pub mod Requested
pub mod parts
