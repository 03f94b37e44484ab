-- The hosts of a build, and the slots that clients lease of them.
--     Hosts    the hosts that a text names
--     Slots    which host a slot is leased of, and what is leased afterwards
--     parts    helpers of contracts, on which none of these rests
pub mod Hosts
pub mod Slots
pub mod parts
