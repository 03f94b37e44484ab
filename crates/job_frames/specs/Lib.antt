-- The frames between a client and a daemon.
--     Spelling    the one spelling of requests, images and replies, and what has one
--     Fields      tokens and bodies, read from a prefix of a stream
--     Formats     the description of a frame, field by field, and the one reading
--     Request     requests: their format
--     Images      images: the entries alone, and their format
--     Reply       replies: their format
--     Outcomes    the verdict on all bytes so far, and what feeding a reader does
--     Laws        the laws of spellings and readings
--     Daemon      what a daemon answers to the bytes that it was sent
--     parts       helpers of contracts, on which none of these rests
pub mod Spelling
pub mod Fields
pub mod Formats
pub mod Request
pub mod Images
pub mod Reply
pub mod Outcomes
pub mod Laws
pub mod Daemon
pub mod parts
