-- Lemmas.
--     Consumed    bytes that were consumed one piece after another
--     Units       the units of a line, one after another
--     LineWords   the words of a line, of which the first are kept
--     Outputs     the outputs of jobs, in a set
--     JobLines    the jobs of lines
pub mod Consumed
pub mod Units
pub mod LineWords
pub mod Outputs
pub mod JobLines
