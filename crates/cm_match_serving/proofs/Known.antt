-- What is known of types, once more is.
use Rattle.std.proofs.Common.{◌≡◌, ◌∙◌, ◌⊎◌, inl, inr, ℕ, zero, suc, ◌<◌, List, [], ◌∷◌, ◌++◌, Some, length, get_or, slice_get, refl, sym, ap, subst, arith}
use Rattle.std.proofs.Math.ListN.{set}
use Rattle.std.proofs.lemmas.List.{length-set}
use Rattle.std.proofs.lemmas.Option.{slice_get-get_or}
use Rattle.std.specs.Option.{option_map_or}
use Rattle.std.specs.Vec.{with_item}
use Rattle.cm_types.specs.Types.{FuncTy, Ty}
use Rattle.cm_types_arena.specs.Replaced.{Standing}
use Rattle.cm_types_arena.specs.Places.{funcs_of, types_of}
use Rattle.cm_types_arena.specs.declared.types.Types.{Types}
use Rattle.cm_types_numbers.specs.Numbering.{Extends, Numbering, numbering}
use Rattle.cm_types_numbers.specs.declared.numbers.Numbers.{Numbers}
use Rattle.cm_types_numbers.specs.PlacedTables.{KnowsFuncs, KnowsPlaced, KnowsTypes}
use Rattle.cm_types_numbers.specs.declared.known_placed.KnownPlaced.{KnownPlaced}
use Rattle.cm_match_serving.specs.cm_validate_spaces.Checked.{funcs_in, types_in}
use Rattle.cm_match_serving.specs.cm_validate_spaces.declared.checked.Checked.{Checked}
use Rattle.cm_match_model.specs.Serving.{standing}
use Rattle.cm_match_serving.specs.Linkings.{components_in, set_in}
use Rattle.cm_match_serving.specs.Sets.{funcs_at, types_at}
use Rattle.cm_match_serving.specs.Knowing.{AreUnknown, KnowsAll}
use Rattle.cm_match_serving.specs.Tables.{AreKnown}
use Rattle.cm_match_serving.specs.declared.linking.Linking.{Linking}
use Rattle.cm_match_serving.specs.declared.tables.Tables.{Tables}
use Rattle.cm_lemmas.proofs.Options.{some_is}

-- ---- lists

either : (m n : ℕ) → (m ≡ n) ⊎ (m ≡ n → ⊥)
either zero zero = inl refl
either zero (suc n) = inr (λ e. omega (arith, e))
either (suc m) zero = inr (λ e. omega (arith, e))
either (suc m) (suc n) = elim (either m n) [
  | inl e ↦ inl (ap suc e)
  | inr f ↦ inr (λ e. f (omega (arith, e)))
]

put_here : {A : Type 0} (xs : List A) (c : ℕ) (x y : A) → slice_get (set xs c x) c ≡ Some y → x ≡ y
put_here [] zero x y e = cc e
put_here [] (suc c) x y e = cc e
put_here (z ∷ zs) zero x y e = some_is x y e
put_here (z ∷ zs) (suc c) x y e = put_here zs c x y e

put_other : {A : Type 0} (xs : List A) (c d : ℕ) (x : A) → (d ≡ c → ⊥) → slice_get (set xs c x) d ≡ slice_get xs d
put_other [] zero d x n = refl
put_other [] (suc c) d x n = refl
put_other (z ∷ zs) zero zero x n = absurd (n refl)
put_other (z ∷ zs) zero (suc d) x n = refl
put_other (z ∷ zs) (suc c) zero x n = refl
put_other (z ∷ zs) (suc c) (suc d) x n = put_other zs c d x (λ e. n (ap suc e))

last_or_before : {A : Type 0} (xs : List A) (x y : A) (c : ℕ) → slice_get (xs ++ x ∷ []) c ≡ Some y → (slice_get xs c ≡ Some y) ⊎ (x ≡ y)
last_or_before [] x y zero e = inr (some_is x y e)
last_or_before [] x y (suc zero) e = cc e
last_or_before [] x y (suc (suc c)) e = cc e
last_or_before (z ∷ zs) x y zero e = inl e
last_or_before (z ∷ zs) x y (suc c) e = last_or_before zs x y c e

-- ---- nothing is known

-- one table more
pub unknown_next : (ks : List KnownPlaced) (k : KnownPlaced) → AreUnknown ks → ((t : Numbering) (s : Standing) (arena : Types) → KnowsPlaced t s arena k) → AreUnknown (ks ++ k ∷ [])
unknown_next ks k all one c j at t s arena = elim (last_or_before ks k j c at) [
  | inl e ↦ all c j e t s arena
  | inr e ↦ subst (KnowsPlaced t s arena) e (one t s arena)
]

-- ---- more is known

knows_all : (t : Numbering) (s : Standing) (types : List Ty) (funcs : List FuncTy) (a : Types) (k : KnownPlaced) → types_of a ≡ types → funcs_of a ≡ funcs → KnowsPlaced t s a k → KnowsAll t s types funcs k
knows_all t s types funcs a k e f h b g i = record {
  types = subst (λ (ts : List Ty). KnowsTypes t s ts k.types) (e ∙ sym g) h.types;
  funcs = subst (λ (fs : List FuncTy). KnowsFuncs t s fs k.funcs) (f ∙ sym i) h.funcs;
}

-- that of one component
pub known_next : ((old new : Numbering) (s : Standing) (types : Types) (known : KnownPlaced) → Extends old new → KnowsPlaced old s types known → KnowsPlaced new s types known)
    → (l : Linking) (old : Tables) (numbers : Numbers) (c : ℕ) (arena : Types) (k : KnownPlaced) → AreKnown l old → Extends (numbering old.numbers) (numbering numbers)
    → types_of arena ≡ types_at (components_in l) c → funcs_of arena ≡ funcs_at (components_in l) c → KnowsPlaced (numbering numbers) (standing (set_in l) c) arena k
    → AreKnown l (record { numbers = numbers; known = with_item old.known c k })
known_next stay l old numbers c arena k h more e f knows = record {
  count = length-set old.known.items c k ∙ h.count;
  each = each;
}
  where
    each : (d : ℕ) (j : KnownPlaced) → slice_get (set old.known.items c k) d ≡ Some j → KnowsAll (numbering numbers) (standing (set_in l) d) (types_at (components_in l) d) (funcs_at (components_in l) d) j
    each d j at = elim (either d c) [
      | inl same ↦
          let is_new : k ≡ j = put_here old.known.items c k j (ap (slice_get (set old.known.items c k)) (sym same) ∙ at) in
          subst (λ (n : ℕ). KnowsAll (numbering numbers) (standing (set_in l) n) (types_at (components_in l) n) (funcs_at (components_in l) n) j) (sym same)
          (subst (KnowsAll (numbering numbers) (standing (set_in l) c) (types_at (components_in l) c) (funcs_at (components_in l) c)) is_new (knows_all (numbering numbers) (standing (set_in l) c) (types_at (components_in l) c) (funcs_at (components_in l) c) arena k e f knows))
      | inr other ↦ λ a g i. stay (numbering old.numbers) (numbering numbers) (standing (set_in l) d) a j more (h.each d j (sym (put_other old.known.items c d k other) ∙ at) a g i)
    ]

-- ---- the arena of a component

module _ (cs ys : List Checked) (c : ℕ) (x : Checked) (there : c < length cs) (same : ys ≡ cs) (is : x ≡ get_or ys c x) where
  at_place : slice_get cs c ≡ Some x
  at_place = slice_get-get_or cs c x there ∙ ap Some (sym (is ∙ ap (λ zs. get_or zs c x) same))

  pub types_there : types_in x ≡ types_at cs c
  types_there = sym (ap (λ o. option_map_or types_in o []) at_place)

  pub funcs_there : funcs_in x ≡ funcs_at cs c
  funcs_there = sym (ap (λ o. option_map_or funcs_in o []) at_place)
