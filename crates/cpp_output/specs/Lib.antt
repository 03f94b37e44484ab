-- Definitions that the contracts cite.
--     Layout    the text of preprocessed output, as a function of what happens to it
--     Laid      an output that grows event by event
--     Excerpts  an output and an excerpt of a file that isn't written yet
pub mod Layout
pub mod Laid
pub mod Excerpts
