-- Words of what the programs have in common.
pub mod Failures
pub mod Read
