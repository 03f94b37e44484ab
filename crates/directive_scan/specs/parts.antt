-- Helpers of contracts: no definition in the folder above rests on them.
--     PartsSoFar  how the parts of such a line come together, token by token
--     OpenStack   the open conditionals of a file, piece by piece
pub mod PartsSoFar
pub mod OpenStack
