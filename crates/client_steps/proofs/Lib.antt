mod Ends
mod Going
mod Judged
mod Ledgers
mod Answered
mod Worked
pub mod Puts
