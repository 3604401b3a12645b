use Rattle.std.proofs.Common.{◌≡◌, ◌+◌, ◌<◌, ◌++◌, List, length, map, take, drop, get_or, sym, ap, ◌∙◌, add-one, arith}
use Rattle.std.specs.Prelude.{slice_set}
use Rattle.cm_machine_model.specs.declared.frame.Place.{Place}
use Rattle.cm_machine_model.specs.declared.frame.Place.TheVariants as place
use Rattle.cm_machine_model.specs.State.{place_after_trap}
use Rattle.cm_machine_parts.proofs.Mapping.{map_at, map_more}
use Rattle.cm_machine_parts.proofs.traps.abandon.Goals as goal

pub loop-place-preserved : goal.loop-place-preserved
loop-place-preserved c =
    let old : List Place = c.args.owners.now.items in
    let items : List Place = c.loop-place.place-items in
    let i = c.loop-place.place-index in
    let none : Place = place.InTable 0 0 in
    let lt : i < length old = omega (arith, ap (λ (xs : List Place). length xs) c.deref_mut-place-items.ensures.value) in
    let here : get_or items i none ≡ get_or old i none = ap (λ (xs : List Place). get_or xs i none) c.loop-place.invariant ∙ map_at place_after_trap old i none lt in
    let is : c.place_after_trap.result ≡ place_after_trap (get_or old i none) = c.place_after_trap.ensures ∙ ap place_after_trap here in
    ap (λ (xs : List Place). slice_set xs i c.place_after_trap.result) c.loop-place.invariant
    ∙ (ap (λ (x : Place). slice_set (map place_after_trap (take i old) ++ drop i old) i x) is
    ∙ rw add-one (map_more place_after_trap old i none lt))
