mod RunLaws
mod CommentLaws
mod DigitLaws
mod LexedLaws
