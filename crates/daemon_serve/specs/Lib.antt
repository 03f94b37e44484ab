-- Serving one request, and a wire in memory whose other side may be the daemon.
--     Serving     what serving one request reads, writes and answers
--     MemWire     a wire's exchanges and calls, and how far the answer of the last exchange was given
--     Scripted    answers that are written down
--     parts       helpers of contracts, on which none of these rests
pub mod Serving
pub mod MemWire
pub mod Scripted
pub mod parts
