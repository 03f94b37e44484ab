-- Helpers of contracts: no definition in the folder above rests on them.
--     Numbers       what the functions that read a token answer
--     Filling       moving bytes of a piece to the field that is due
--     Dues          which field of a format is due, and what taking it means
--     Machines      where a machine stands, its moves, and what a reader says
--     Stages        where a reader of requests or images stands
--     Readers       what a reader of requests is seen as
--     ReplyStages   where a reader of replies stands
--     ReplyReaders  what a reader of replies is seen as
pub mod Numbers
pub mod Filling
pub mod Dues
pub mod Machines
pub mod Stages
pub mod Readers
pub mod ReplyStages
pub mod ReplyReaders
