-- Words of the library of cases.
--     Nodes      the nodes that cases add to a tree's entries
pub mod Nodes
