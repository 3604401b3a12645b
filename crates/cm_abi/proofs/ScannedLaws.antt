-- What is kept of a scanned value is counted by its parts and its handles; and each handle to be
-- borrowed is one that was lent.
use Rattle.std.proofs.Common.{◌≡◌, ℕ, ◌+◌, Bool, true, false, List, [], ◌∷◌, ◌++◌, length, map, Option, Some, None, refl, sym, ap, subst, ◌∙◌, arith, length-append}
use Rattle.std.specs.Prelude.{if◌then◌else◌}
use Rattle.std.specs.Option.{option_map}
use Rattle.std.proofs.lemmas.List.{length-map}
use Rattle.cm_types.specs.Types.{Fields}
use Rattle.cm_types.specs.Values.{HandleValue, HasType, Val}
use Rattle.cm_handles.specs.Handles.{Handles, handle_at}
use Rattle.cm_handles.specs.declared.handle.Handle.{Handle}
use Rattle.cm_layout.specs.Sizes.{align_of, size_of}
use Rattle.cm_abi_model.specs.Parts.{Part, element_part, handle_count, part_count, parts_in}
use Rattle.cm_abi_model.specs.Receives.{HandleLeaf, owned_leaf, borrowed_leaf, leaves_in}
use Rattle.cm_abi_model.specs.Requests.{call_parts, is_spilled, parts_of, tuple_of}
use Rattle.cm_abi_model.specs.Taken.{AllThere, Met, content, lent, lent_of, taken, taken_of, text_content}
use Rattle.cm_abi_model.specs.Views.{Way}
use Rattle.cm_abi_copy.specs.MetLeaves.{leaf_at, leaves_met}
use Rattle.cm_abi_model.specs.HandleLeaves.{stands_for}
use Rattle.cm_abi_model.specs.HandleLeaves.{borrowed_in}
use Rattle.cm_abi.proofs.CountLemmas.{handles_counted}
use Rattle.cm_abi.proofs.InsideLaws.{counted}

-- ---- parts

with_tuple : (b : Bool) (p : Part) (ps : List Part) → length (if b then p ∷ ps else ps) ≡ (if b then 1 else 0) + length ps
with_tuple true p ps = omega arith
with_tuple false p ps = omega arith

pub parts_counted : (way : Way) (types : Fields) (v : Val) → HasType (tuple_of types) v → length (call_parts way types v) + handle_count v ≡ parts_of way types v
parts_counted way types v typed =
    let tuple = with_tuple (is_spilled way types) (element_part 1 (size_of (tuple_of types)) (align_of (tuple_of types))) (parts_in (tuple_of types) v) in
    omega (arith, tuple, counted (tuple_of types) v typed)

-- ---- handles

met_counted : (t : Handles) (ms : List Met) → AllThere t ms → length (taken_of ms) + length (lent_of ms) ≡ length (leaves_met t ms)
met_counted t [] there = omega arith
met_counted t (text_content tags n ∷ ms) there = met_counted t ms there
met_counted t (content n ∷ ms) there = met_counted t ms there
met_counted t (taken i ∷ ms) there =
    let here : length (leaf_at owned_leaf (handle_at t i)) ≡ 1 = rw there.0.1 refl in
    omega (arith, here, length-append (leaf_at owned_leaf (handle_at t i)) (leaves_met t ms), met_counted t ms there.1)
met_counted t (lent i ∷ ms) there =
    let here : length (leaf_at borrowed_leaf (handle_at t i)) ≡ 1 = rw there.0.1 refl in
    omega (arith, here, length-append (leaf_at borrowed_leaf (handle_at t i)) (leaves_met t ms), met_counted t ms there.1)

pub handles_shared : (t : Handles) (ms : List Met) (types : Fields) (v : Val) (owns : List Handle) (lends : List ℕ) → HasType (tuple_of types) v → AllThere t ms → leaves_met t ms ≡ leaves_in (tuple_of types) v
    → map Some owns ≡ map (handle_at t) (taken_of ms) → lends ≡ lent_of ms → length owns + length lends ≡ handle_count v
handles_shared t ms types v owns lends typed there leaves owned borrowed =
    let as_many : length owns ≡ length (taken_of ms) = sym (length-map owns Some) ∙ (ap length owned ∙ length-map (taken_of ms) (handle_at t)) in
    omega (arith, as_many, ap length borrowed, met_counted t ms there, ap length leaves, handles_counted (tuple_of types) v typed)

-- ---- borrows

own_none : (o : Option Handle) (leaves : List HandleLeaf) → borrowed_in (leaf_at owned_leaf o ++ leaves) ≡ borrowed_in leaves
own_none None leaves = refl
own_none (Some h) leaves = refl

lent_one : (o : Option Handle) (h : Handle) (leaves : List HandleLeaf) → o ≡ Some h → borrowed_in (leaf_at borrowed_leaf o ++ leaves) ≡ stands_for h ∷ borrowed_in leaves
lent_one o h leaves is = rw is refl

pub borrowed_are_lent : (t : Handles) (ms : List Met) → AllThere t ms → map (λ i. option_map stands_for (handle_at t i)) (lent_of ms) ≡ map Some (borrowed_in (leaves_met t ms))
borrowed_are_lent t [] there = refl
borrowed_are_lent t (text_content tags n ∷ ms) there = borrowed_are_lent t ms there
borrowed_are_lent t (content n ∷ ms) there = borrowed_are_lent t ms there
borrowed_are_lent t (taken i ∷ ms) there = borrowed_are_lent t ms there.1 ∙ ap (map Some) (sym (own_none (handle_at t i) (leaves_met t ms)))
borrowed_are_lent t (lent i ∷ ms) there =
    ap (λ o. option_map stands_for o ∷ map (λ j. option_map stands_for (handle_at t j)) (lent_of ms)) there.0.1
    ∙ (ap (λ l. Some (stands_for there.0.0) ∷ l) (borrowed_are_lent t ms there.1)
    ∙ ap (map Some) (sym (lent_one (handle_at t i) there.0.0 (leaves_met t ms) there.0.1)))
