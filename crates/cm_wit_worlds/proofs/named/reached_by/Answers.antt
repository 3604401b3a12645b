use Rattle.std.proofs.Common.{◌≡◌, ◌∙◌, map, ap}
use Rattle.cm_wit_worlds.specs.Interfaces.{use_targets}
use Rattle.cm_wit_worlds.specs.InterfaceViews.{files_of, placed_world}
use Rattle.cm_wit_worlds.specs.Worlds.{named, rows_of}
use Rattle.cm_wit_worlds.proofs.NamedLaws.{marks_same}
use Rattle.cm_wit_worlds.proofs.named.reached_by.Goals as goal

pub returns : goal.returns
returns c =
    let fs = files_of c.args.directory.now.files.items in
    let w = placed_world c.args.world.now in
    let rows : map (λ r. r.items) c.deref.result.now ≡ rows_of fs = ap (map (λ r. r.items)) c.deref.ensures.value ∙ (c.in_ok-rows.ensures ∙ ap (map (use_targets fs)) c.requires) in
    let all : c.deref-2.result.now ≡ named fs w = c.deref-2.ensures.value ∙ c.in_ok-named.ensures in
    λ k. marks_same (map (λ r. r.items) c.deref.result.now) (rows_of fs) c.deref-2.result.now (named fs w) c.in_ok-reach.reach.marks.items k rows all (c.in_ok-reach.ensures.marks k)
