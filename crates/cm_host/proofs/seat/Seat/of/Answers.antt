use Rattle.std.proofs.Common.{◌≡◌, List, Option, Some, slice_get, ap, map, subst, sym, ◌∙◌}
use Rattle.std.specs.Option.{option_map}
use Rattle.std.proofs.lemmas.Option.{slice_get-get_or, slice_get-map}
use Rattle.cm_validate_model.specs.Spaces.{spaces_of}
use Rattle.cm_validate_spaces.specs.Checked.{sections_in}
use Rattle.cm_validate_spaces.specs.declared.checked.Checked.{Checked}
use Rattle.cm_machine.specs.cm_match.Linked.{components_in}
use Rattle.cm_host.proofs.seat.Seat.of.Goals as goal

pub returns-clause-component : goal.returns-clause-component
returns-clause-component c =
    let checked = c.in-Some.checked.now in
    let i = c.args.instance in
    let cs = components_in c.args.linked.now in
    let there : slice_get cs i ≡ Some checked =
    subst (λ (xs : List Checked). slice_get xs i ≡ Some checked) c.components.ensures.components
    (slice_get-get_or c.components.result.now i checked c.in-Some.ensures.lookup.3.0 ∙ ap Some (sym c.in-Some.ensures.lookup.1)) in
    slice_get-map spaces_of (map sections_in cs) i
    ∙ ap (option_map spaces_of) (slice_get-map sections_in cs i ∙ ap (option_map sections_in) there)
    ∙ ap Some (sym c.in_ok-functions.ensures)
