-- Trees of files.
--     Paths      canonical paths and their spelling
--     Entries    lists of nodes in order of their paths' spellings
--     Trees      a tree: a finite map from paths to nodes
--     Bodies     the bytes of files
--     Shown      paths as diagnostics and line markers show them
--     Laws       laws of paths and trees
--     Walk       walks through a tree, and the files that texts locate
--     Frame      laws of walks
--     parts      helpers of contracts, on which none of these rests
pub mod Paths
pub mod Entries
pub mod Trees
pub mod Bodies
pub mod Shown
pub mod Laws
pub mod Walk
pub mod Reached
pub mod Frame
pub mod parts
