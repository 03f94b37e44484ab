-- Job numbers that threads draw.
--     Seats    what contracts see of the numbers and of a seat, and what each call does to it
--     parts    helpers of contracts, on which none of these rests
pub mod Seats
pub mod parts
