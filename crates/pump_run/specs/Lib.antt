-- The top call.
--     Report     the text of a report, and how a run may end
--     Run        the clause on the top call: its run
--     parts      helpers of contracts, on which none of these rests
pub mod Report
pub mod Run
pub mod parts
