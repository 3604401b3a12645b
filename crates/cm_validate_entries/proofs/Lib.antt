mod MemberLaws
mod StepLaws
mod AliasLaws
mod MoveLaws
pub mod ImportLaws
mod AnswerLaws
mod ExportLaws
mod StayLaws
mod GrowLaws
mod LiftLaws
pub mod RoomLaws
