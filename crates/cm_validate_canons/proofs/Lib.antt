mod PassingLaws
mod ReasonLaws
mod AnswerLaws
