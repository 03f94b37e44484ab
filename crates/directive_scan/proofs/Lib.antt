mod Steps
mod Spotted
mod DirectiveNames
mod Roles
mod Outlines
mod OneOutline
mod OpenFronts
mod StackSteps
mod Whole
mod ClosedNames
mod PartSteps
mod TextLines
mod Probed
pub mod Asking
