-- The sheet of a file: what it may ask for and define, whatever its conditionals say.
--     Sheet      the sheet of a visit
--     Keys       keys of sheets, and when a sheet is right for one
--     Weights    what a sheet weighs in a memo
--     Laws       the place of a located file leads to it from the root
--     parts      helpers of contracts, on which none of these rests
pub mod Sheet
pub mod Laws
pub mod Keys
pub mod Weights
pub mod parts
