-- Lemmas.
--     MadeTree        the entries of a job make a tree, which is a part of the whole tree
--     TableLaws       the macros of a table are among a list of definitions, and so among its sets
--     ComputedLaws    a header that expanded tokens name is one that some choice of definitions gives
--     Kept            what preprocessing keeps of its state
--     Targets         each file that a file which is read asks for is known
--     Alike           preprocessing over worlds that agree where the analysis searches
--     Worlds          the whole tree, and the tree of the entries, are such worlds
--     Enough          preprocessing over the entries' tree
pub mod MadeTree
pub mod TableLaws
pub mod ComputedLaws
pub mod Kept
pub mod Targets
pub mod Alike
pub mod Worlds
pub mod Enough
