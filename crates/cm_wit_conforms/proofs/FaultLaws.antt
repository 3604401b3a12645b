-- The first fault, entry by entry.
use Rattle.std.proofs.Common.{◌≡◌, ℕ, ◌+◌, ◌<◌, ◌≤◌, ◌↔◌, Bool, true, false, IsTrue, List, [], ◌∷◌, ◌++◌, length, map, take, drop, get_or, refl, sym, ap, subst, ◌∙◌}
use Rattle.std.proofs.lemmas.List.{drop_more, map-append, map_more, take_all, take-append-drop}
use Rattle.cm_wit_conforms.specs.Comparisons.{Entry}
use Rattle.cm_wit_conforms.specs.Conformance.{AllFit, Fits, IsFirstIn, reason_of}
use Rattle.cm_wit_conforms.specs.declared.fault.ConformReason.{ConformReason}
use Rattle.cm_lemmas.proofs.Lists.{all_push}

module _ {A : Type 0} (view : A → Entry) (all : List A) where
  pub fit_more : (es : List Entry) (i : ℕ) (x : A) → i < length all → x ≡ get_or all i x → AllFit es (map view (take i all)) → Fits es (view x).what → AllFit es (map view (take (i + 1) all))
  fit_more es i x lt at fit here =
      let P : Entry → Type 0 = λ e. Fits es e.what in
      let more : map view (take (i + 1) all) ≡ map view (take i all) ++ view x ∷ [] = map_more view all i x lt ∙ ap (λ (y : A). map view (take i all) ++ view y ∷ []) (sym at) in
      subst (λ (fs : List Entry). AllFit es fs) (sym more) (all_push P (map view (take i all)) (view x) fit here)

  pub all_fit : (es : List Entry) (i : ℕ) → length all ≤ i → AllFit es (map view (take i all)) → AllFit es (map view all)
  all_fit es i le fit = subst (λ (xs : List A). AllFit es (map view xs)) (take_all i all le) fit

  parted : (i : ℕ) (x : A) → i < length all → x ≡ get_or all i x → map view all ≡ map view (take i all) ++ view x ∷ map view (drop (i + 1) all)
  parted i x lt at =
      ap (map view) (sym (take-append-drop i all))
      ∙ map-append view (take i all) (drop i all)
      ∙ ap (λ (xs : List A). map view (take i all) ++ map view xs) (drop_more all i x lt ∙ ap (λ (y : A). y ∷ drop (i + 1) all) (sym at))

  pub first_here : (es : List Entry) (i : ℕ) (x : A) (r : ConformReason) → i < length all → x ≡ get_or all i x → AllFit es (map view (take i all)) → ¬ (Fits es (view x).what) → r ≡ reason_of (view x).item.list (view x).what → IsFirstIn es (map view all) (view x).item r
  first_here es i x r lt at fit unfit why = record {
    front = map view (take i all);
    entry = view x;
    rest = map view (drop (i + 1) all);
    split = parted i x lt at;
    before = fit;
    unfit = unfit;
    place = refl;
    reason = sym why;
  }

pub told_true : (b : Bool) (P : Type 0) → IsTrue b ↔ P → b ≡ true → P
told_true b P h e = h.0 e

pub told_false : (b : Bool) (P : Type 0) → IsTrue b ↔ P → b ≡ false → ¬ P
told_false b P h e p = true_not (sym (h.1 p) ∙ e)
  where
    true_not : true ≡ false → ⊥
    true_not e = cc
