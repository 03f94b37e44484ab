-- Lemmas on what a client does at its end.
--     Refusing   what a refused analysis says of the told tree
--     Changes    changes of a talk, one after another
--     Agreeing   records and the whole tree, where hosts answer as daemons do
--     Deeds      what was done at an end, one moment after another
--     Replies    what whole replies say, and what asking a host leaves
--     Unused     ends that weren't used
pub mod Refusing
pub mod Changes
pub mod Replies
pub mod Deeds
pub mod Unused
pub mod Agreeing
