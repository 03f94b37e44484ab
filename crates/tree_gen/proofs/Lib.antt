-- Lemmas.
--     Counted    lists that are made from numbers
--     Paths      the paths of headers and of sources are canonical
--     Order      entries that are sorted and apart increase
--     Apart      no two nodes have one path
--     Fits       no file is larger than files may be, nor is the list
--     Tree       the nodes in order make a tree
pub mod Counted
pub mod Paths
pub mod Order
pub mod Apart
pub mod Fits
pub mod Tree
