pub mod Utterances
pub mod Watching
pub mod Sessions
pub mod Answers
