-- Why what is dropped or lost stays so, and no serial number is issued twice.
use Rattle.std.proofs.Common.{◌≡◌, ℕ, zero, suc, ◌+◌, ◌≤◌, inl, inr, List, [], ◌∷◌, ◌++◌, length, Option, Some, refl, sym, ap, subst, ◌∙◌, arith}
use Rattle.std.specs.Prelude.{⊤, map, slice_get, slice_set}
use Rattle.std.specs.Option.{option_map}
use Rattle.std.proofs.lemmas.Bool.{cases_eq}
use Rattle.std.proofs.lemmas.List.{length-map}
use Rattle.std.proofs.lemmas.Option.{none-some, same_Some, slice_get-map}
use Rattle.cm_types.specs.Values.{HandleValue}
use Rattle.cm_abi_model.specs.HandleLeaves.{owned_in}
use Rattle.cm_abi_model.specs.Receives.{HandleLeaf, borrowed_leaf, owned_leaf}
use Rattle.cm_machine_model.specs.declared.frame.Place.{Place}
use Rattle.cm_machine_model.specs.declared.frame.Place.TheVariants as place
use Rattle.cm_machine_model.specs.Owning.{IsAmong, serials}
use Rattle.cm_machine_model.specs.State.{place_after_trap, with_places}
use Rattle.cm_machine_model.specs.Step.{owners_given}

-- a place from which nothing comes back
abbrev pub IsFinal : Place → Type 0
IsFinal (place.InTable i index) = ⊥
IsFinal (place.Travelling frame) = ⊥
IsFinal place.Abandoned = ⊤
IsFinal place.Dropped = ⊤

-- Owners keep what is gone: where it was it is, and no fewer are known.
pub record Keeps (old new : List Place) : Type 0 where
  pub stays : (n : ℕ) (p : Place) → IsFinal p → slice_get old n ≡ Some p → slice_get new n ≡ Some p
  pub issued : length old ≤ length new

pub keeps_same : (xs : List Place) → Keeps xs xs
keeps_same xs = record { stays = λ n p final e. e; issued = omega arith }

pub keeps_both : (xs ys zs : List Place) → Keeps xs ys → Keeps ys zs → Keeps xs zs
keeps_both xs ys zs a b = record {
  stays = λ n p final e. b.stays n p final (a.stays n p final e);
  issued = omega (arith, a.issued, b.issued);
}

set_length : (xs : List Place) (i : ℕ) (p : Place) → length (slice_set xs i p) ≡ length xs
set_length [] i p = refl
set_length (x ∷ xs) zero p = refl
set_length (x ∷ xs) (suc i) p = ap suc (set_length xs i p)

set_other : (xs : List Place) (i n : ℕ) (p : Place) → (n ≡ i → ⊥) → slice_get (slice_set xs i p) n ≡ slice_get xs n
set_other [] i n p ne = refl
set_other (x ∷ xs) zero zero p ne = absurd (ne refl)
set_other (x ∷ xs) zero (suc n) p ne = refl
set_other (x ∷ xs) (suc i) zero p ne = refl
set_other (x ∷ xs) (suc i) (suc n) p ne = set_other xs i n p (λ e. ne (ap suc e))

-- one resource that is not gone is elsewhere now
pub keeps_set : (xs : List Place) (i : ℕ) (p : Place) → ((q : Place) → IsFinal q → slice_get xs i ≡ Some q → ⊥) → Keeps xs (slice_set xs i p)
keeps_set xs i p here = record {
  stays = λ n q final e. elim (cases_eq n i) as (λ r. slice_get (slice_set xs i p) n ≡ Some q) [
    | inl same ↦ absurd (here q final (subst (λ k. slice_get xs k ≡ Some q) same e))
    | inr ne ↦ set_other xs i n p ne ∙ e
  ];
  issued = omega (arith, set_length xs i p);
}

set_here : (xs : List Place) (i : ℕ) (p q : Place) → slice_get (slice_set xs i p) i ≡ Some q → p ≡ q
set_here [] i p q e = absurd (none-some q e)
set_here (x ∷ xs) zero p q e = same_Some p q e
set_here (x ∷ xs) (suc i) p q e = set_here xs i p q e

-- the resource with this serial number is not gone
abbrev pub IsLive : List Place → ℕ → Type 0
IsLive xs n = (q : Place) → IsFinal q → slice_get xs n ≡ Some q → ⊥

-- a change to a place that is not final leaves it so
live_set : (xs : List Place) (i n : ℕ) (p : Place) → (IsFinal p → ⊥) → IsLive xs n → IsLive (slice_set xs i p) n
live_set xs i n p apart live q final e = elim (cases_eq n i) [
  | inl same ↦ apart (subst IsFinal (sym (set_here xs i p q (subst (λ k. slice_get (slice_set xs i p) k ≡ Some q) same e))) final)
  | inr ne ↦ live q final (sym (set_other xs i n p ne) ∙ e)
]

-- the resources of these handles are on their way
pub keeps_travel : (frame : ℕ) (hs : List HandleValue) (xs : List Place) → ((n : ℕ) → IsAmong (serials hs) n → IsLive xs n) → Keeps xs (with_places (place.Travelling frame) hs xs)
keeps_travel frame [] xs live = keeps_same xs
keeps_travel frame (h ∷ hs) xs live =
    keeps_both xs (slice_set xs h.serial (place.Travelling frame)) (with_places (place.Travelling frame) hs (slice_set xs h.serial (place.Travelling frame)))
    (keeps_set xs h.serial (place.Travelling frame) (live h.serial (inl refl)))
    (keeps_travel frame hs (slice_set xs h.serial (place.Travelling frame)) (λ n among. live_set xs h.serial n (place.Travelling frame) (λ x. x) (live n (inr among))))

pub live_travel : (frame : ℕ) (hs : List HandleValue) (xs : List Place) (n : ℕ) → IsLive xs n → IsLive (with_places (place.Travelling frame) hs xs) n
live_travel frame [] xs n live = live
live_travel frame (h ∷ hs) xs n live = live_travel frame hs (slice_set xs h.serial (place.Travelling frame)) n (live_set xs h.serial n (place.Travelling frame) (λ x. x) live)

-- the resources of these handles are in a table
pub keeps_given : (i : ℕ) (leaves : List HandleLeaf) (ns : List ℕ) (xs : List Place) → ((n : ℕ) → IsAmong (serials (owned_in leaves)) n → IsLive xs n) → Keeps xs (owners_given i leaves ns xs)
keeps_given i [] ns xs live = keeps_same xs
keeps_given i (leaf ∷ leaves) [] xs live = keeps_same xs
keeps_given i (owned_leaf h ∷ leaves) (n ∷ ns) xs live =
    keeps_both xs (slice_set xs h.serial (place.InTable i n)) (owners_given i leaves ns (slice_set xs h.serial (place.InTable i n)))
    (keeps_set xs h.serial (place.InTable i n) (live h.serial (inl refl)))
    (keeps_given i leaves ns (slice_set xs h.serial (place.InTable i n)) (λ k among. live_set xs h.serial k (place.InTable i n) (λ x. x) (live k (inr among))))
keeps_given i (borrowed_leaf h ∷ leaves) (n ∷ ns) xs live = keeps_given i leaves ns xs live

final_kept : (p : Place) → IsFinal p → place_after_trap p ≡ p
final_kept (place.InTable i index) final = absurd final
final_kept (place.Travelling frame) final = absurd final
final_kept place.Abandoned final = refl
final_kept place.Dropped final = refl

-- what a trap leaves
pub keeps_trap : (xs : List Place) → Keeps xs (map place_after_trap xs)
keeps_trap xs = record {
  stays = λ n p final e. slice_get-map place_after_trap xs n ∙ (ap (λ (o : Option Place). option_map place_after_trap o) e ∙ ap Some (final_kept p final));
  issued = omega (arith, length-map xs place_after_trap);
}

push_get : (xs : List Place) (y : Place) (n : ℕ) (p : Place) → slice_get xs n ≡ Some p → slice_get (xs ++ y ∷ []) n ≡ Some p
push_get [] y n p e = absurd (none-some p e)
push_get (x ∷ xs) y zero p e = e
push_get (x ∷ xs) y (suc n) p e = push_get xs y n p e

push_length : (xs : List Place) (y : Place) → length (xs ++ y ∷ []) ≡ suc (length xs)
push_length [] y = refl
push_length (x ∷ xs) y = ap suc (push_length xs y)

-- one more is made
pub keeps_push : (xs : List Place) (y : Place) → Keeps xs (xs ++ y ∷ [])
keeps_push xs y = record { stays = λ n p final e. push_get xs y n p e; issued = omega (arith, push_length xs y) }
