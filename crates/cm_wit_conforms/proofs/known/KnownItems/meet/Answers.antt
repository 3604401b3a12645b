use Rattle.std.proofs.Common.{◌≡◌, ◌∙◌, ◌++◌, ℕ, List, Option, ap}
use Rattle.std.specs.List.{filter_map, position_from}
use Rattle.std.specs.BTreeMap.{get}
use Rattle.std.specs.Ordering.{nat_cmp}
use Rattle.cm_wit_conforms.specs.Hits.{is_place}
use Rattle.cm_wit_conforms.specs.Places.{item_names}
use Rattle.cm_wit_conforms.specs.declared.known.Meeting.{Meeting}
use Rattle.cm_wit_conforms.proofs.MeetLaws.{met_by}
use Rattle.cm_wit_conforms.proofs.known.KnownItems.meet.Goals as goal

pub returns : goal.returns
returns c = λ u texts known.
    let m : Meeting = record { firsts = c.deref-4.result; hits = c.in_ok-hits.hits; places = c.in_ok-places.places } in
    let found = c.in_ok-found.found.items in
    let hits : (p : ℕ) → get nat_cmp m.hits p ≡ position_from (is_place p) 0 found = λ p.
    c.in_ok-hits.ensures p ∙ ap (λ (fs : List (Option ℕ)). position_from (is_place p) 0 fs) c.deref.ensures.value in
    let places : m.places.items ≡ filter_map (λ f. f) found ++ c.args.self.now.repeats.items =
    c.in_ok-places.ensures
    ∙ (ap (λ (fs : List (Option ℕ)). filter_map (λ f. f) fs ++ c.deref-3.result.now) c.deref-2.ensures.value
    ∙ ap (λ (ps : List ℕ). filter_map (λ f. f) found ++ ps) c.deref-3.ensures.value) in
    met_by texts (item_names u c.args.others) c.args.self.now m found known c.deref-4.ensures.value (c.in_ok-found.ensures u texts known) hits places
