mod Runs
mod Echoes
mod Members
mod Joined
mod NodeSteps
mod ArbiterSteps
mod Starts
mod Acts
mod Places
mod Whole
mod Kept
mod NodeAnswers
mod Answers
pub mod Safe
pub mod Recalling
