use Rattle.std.proofs.Common.{◌≡◌, ◌∙◌, ℕ, List, Option, Ok, Err, IfOk, ap, map, refl}
use Rattle.std.specs.declared.result.Result.{Result}
use Rattle.cm_names.specs.Listed.{listed}
use Rattle.cm_wit_conforms.specs.Numbers.{front_number}
use Rattle.cm_wit_conforms.specs.Places.{found_by, place_in}
use Rattle.cm_wit_conforms.specs.Tables.{numbers_in}
use Rattle.cm_wit_conforms.specs.PartViews.{front_view}
use Rattle.cm_wit_conforms.specs.declared.parts.FrontParts.{FrontParts}
use Rattle.cm_wit_conforms.proofs.PlaceLaws.{all_places}
use Rattle.cm_wit_conforms.proofs.places.NameTable.places.Goals as goal

ok_more : {A E : Type 0} (r : Result A E) (P Q : A → Type 0) → ((x : A) → P x → Q x) → IfOk r P → IfOk r Q
ok_more (Ok x) P Q f h = f x h
ok_more (Err e) P Q f h = h

pub returns : goal.returns
returns c =
    let fronts = c.args.self.now.fronts in
    let keys = listed c.args.self.now.keys in
    let own = c.args.names.now in
    let wanted : c.in_ok-wanted.wanted.items ≡ map (λ (f : FrontParts). front_number fronts (front_view f)) own.fronts.items =
    c.in_ok-wanted.ensures ∙ ap (map (λ (f : FrontParts). front_number fronts (front_view f))) c.deref.ensures.value in
    ok_more c.all_found.result _ _ (λ v e texts theirs mine has.
    e
    ∙ (ap (λ (ns : List (Option ℕ)). map (found_by ns keys) c.deref-3.result.now) c.deref-2.ensures.value
    ∙ (ap (map (found_by c.in_ok-wanted.wanted.items keys)) c.deref-3.ensures.value
    ∙ (all_places c.names_show_their_forms.ensures has.list.fronts.items (listed fronts.firsts) (listed fronts.seconds) (listed fronts.versions) has.fronts.firsts has.fronts.seconds has.fronts.versions (numbers_in fronts has.list) refl
    has.list.names.items has.names.trees theirs has.names.parts has.names.within has.names.labels has.names.spelled keys has.keys own.fronts.items c.in_ok-wanted.wanted.items wanted own.names.items mine.trees mine.parts mine.within mine.labels
    ∙ ap (map (place_in theirs)) mine.spelled)))) c.all_found.ensures
