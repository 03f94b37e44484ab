-- The words of the top call.
--     Asked      what they ask for
--     parts      helpers of contracts, on which none of these rests
pub mod Asked
pub mod parts
