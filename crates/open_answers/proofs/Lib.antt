pub mod EndedAnswers
