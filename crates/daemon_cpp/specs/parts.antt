-- Helpers of contracts: no definition in the folder above rests on them.
--     Controlling  what the code keeps of a condition's line that is being expanded
--     FileTexts what a file that was lexed is read as
--     KnownTexts what is kept of the files of a tree that were lexed
--     Problems  the problems of the code, as complaints
--     Reading   what is left to do where files are read: the code's stack of includes, and its place in a conditional
--     Showing   what the code keeps of a state, and what its functions lead to
pub mod Controlling
pub mod Files
pub mod FileTexts
pub mod KnownTexts
pub mod Narrow
pub mod Problems
pub mod Reading
pub mod Showing
