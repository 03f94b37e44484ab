-- Lemmas.
--     Ends       a list put by its first and its last elements
--     Listed     searching a list by a test that tells its members apart
--     Lists      all members of a longer list, and rows from a place on
--     Results    results that are no errors
pub mod Ends
pub mod Listed
pub mod Lists
pub mod Results
