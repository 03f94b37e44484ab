-- Lemmas.
--     FewClients    the words of a run ask for no more clients than there are ends
--     OneRan        what a run of one job says where its status is 0 or 1
--     Ends          one end more
--     SeveralRan    what a run of several jobs says where its status is 0
pub mod FewClients
pub mod OneRan
pub mod Ends
pub mod SeveralRan
