mod BundleLaws
mod ChoiceLaws
mod FuncLaws
pub mod LinkLaws
mod ListLaws
mod OnlyLaws
mod PlanLaws
mod SeenLaws
mod SoundLaws
