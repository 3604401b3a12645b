mod EachLaws
mod SeekLaws
mod PackageLaws
mod GatingLaws
