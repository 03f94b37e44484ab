-- What a daemon answers to a job and its entries.
--     Answers     the reply that carries an outcome, and the answer to a whole request
pub mod Answers
