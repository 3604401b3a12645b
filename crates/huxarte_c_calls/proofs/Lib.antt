mod CopyLaws
mod HandleLaws
mod RequestLaws
mod TextLaws
mod NodeLaws
