-- Lemmas.
--     Digits     numbers read digit by digit
--     Options    options behind their first `,`
--     Words      the hosts of words, one word after another
pub mod Digits
pub mod Options
pub mod Words
