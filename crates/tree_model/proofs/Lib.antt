-- Lemmas.
--     Spellings      the spelling of a name below a text
--     PathLemmas     canonical paths and their spellings
--     OrderLemmas    entries whose paths increase
--     TreeLemmas     the tree of a list of entries
--     JudgeLemmas    judging each path behind those before it
--     MemberLemmas   membership in lists
--     FrameParts     walks in a part of a tree
--     FrameLooked    walks over lookups that agree at the paths looked up
--     WalkLemmas     the file reached was walked; more links do no harm
--     WalkNodes      walks in a tree stand at nodes
--     WalkLeads      a located file is one, and its place leads to it
--     CutLemmas      components of texts that are cut at a `/`
--     RememberedLemmas answers that are remembered, after one more
--     StepLemmas     each step of a program goes on as the walk does
--     Below          what is located below a text whose walk from the root reached a directory, or none
--     Further        walks with one component more
--     LinkFronts     what stands before the last `/` of a link's text, walked from the root
--     ShownLemmas    what is shown of a list, one member more
--     PlacedLemmas   where entries stand, and what is found by it
--     WalkExamples   worked walks
pub mod Spellings
pub mod PathLemmas
pub mod OrderLemmas
pub mod TreeLemmas
pub mod JudgeLemmas
pub mod MemberLemmas
pub mod FrameParts
pub mod FrameLooked
pub mod WalkLemmas
pub mod WalkNodes
pub mod WalkLeads
pub mod CutLemmas
pub mod StepLemmas
pub mod RememberedLemmas
pub mod Below
pub mod Further
pub mod LinkFronts
pub mod ShownLemmas
pub mod PlacedLemmas
mod WalkExamples
