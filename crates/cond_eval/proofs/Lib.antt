-- Lemmas on the values of controlling expressions.
--     Digits      what digits stand for
--     Endings     what is ended, and what is wrong
--     Making      what stands for an expression is what is made of it
--     Values      the value of what the code keeps, and lexemes one after another
--     Levels      levels of the grammar, and what stands open
--     Sound       what is read is what the lexemes spell
--     Complete    what the lexemes spell is read
--     Examples    values that are computed
mod Digits
mod Endings
mod Making
mod Values
mod Levels
mod Sound
mod Complete
mod Examples
