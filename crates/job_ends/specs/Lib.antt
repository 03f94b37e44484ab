-- What clients do at their ends, one job at a time.
--     Outside     an end as contracts see it
--     Exchange    what an exchange leaves in the talk
--     Record      what a record of a job says of its client's end
--     Steps       what the steps of a job leave there
--     Agree       what a record says of the whole tree, where hosts answer as daemons do
--     Looks       a job's calls on the memo of sheets
--     Works       the works of a run: records beside what the ends of the clients have of them
pub mod Outside
pub mod Exchange
pub mod Record
pub mod Steps
pub mod Agree
pub mod Looks
pub mod Works
