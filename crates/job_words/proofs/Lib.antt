-- Lemmas.
--     Fronts      a word without its front
--     Steps       the reading of one word
--     Places      the last `.` of a name, and what stands behind the last `/` of a text
--     EachOnce    texts, each at its first place alone
--     MacroLines  the lines of macros, byte by byte
--     WordParts   a word in front of a space or a newline is one token
--     PlainWords  a `-D` whose name and value are one word each
--     Jobs        what a reading keeps, and how long its words are
--     FirstWords  more words than are read
pub mod Fronts
pub mod Steps
pub mod Places
pub mod EachOnce
pub mod MacroLines
pub mod WordParts
pub mod PlainWords
pub mod Jobs
pub mod FirstWords
