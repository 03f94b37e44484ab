mod Blocks
mod Growth
mod Lines
mod Taken
