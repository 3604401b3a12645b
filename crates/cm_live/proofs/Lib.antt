pub mod BackLaws
pub mod CallsLaws
pub mod LineLaws
pub mod MirrorLaws
pub mod OneLineLaws
pub mod RoomLaws
pub mod ShapeLaws
pub mod TranscriptLaws
