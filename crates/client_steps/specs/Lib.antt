-- Clients that stop at each step that others see.
--     Phases     what is known of a client's end in each phase
--     Ledger     what a client has done so far, and what its calls ask for and leave
pub mod Phases
pub mod Ledger
