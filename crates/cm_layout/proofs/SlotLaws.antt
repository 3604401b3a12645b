-- A joined slot holds the greatest kind that some payload has there.
use Rattle.std.proofs.Common.{◌≡◌, ℕ, zero, suc, List, [], ◌∷◌, inl, inr, Option, Some, None, refl, sym, ap, ◌∙◌, subst}
use Rattle.cm_types.specs.declared.core_value.CoreKind.{CoreKind}
use Rattle.cm_types.specs.declared.core_value.CoreKind.TheVariants.{I32, I64}
use Rattle.cm_types.specs.Types.{Ty, Cases, cases, no_cases, plain, carrying}
use Rattle.cm_layout.specs.Flattening.{join, join_slots, flat_of, flat_of_cases, slot, IsGreatestSlot, JoinsSlots}

-- two slots joined
abbrev join_options : Option CoreKind → Option CoreKind → Option CoreKind
join_options None o = o
join_options (Some j) None = Some j
join_options (Some j) (Some k) = Some (join j k)

joined_slot : (xs ys : List CoreKind) (n : ℕ) → slot (join_slots xs ys) n ≡ join_options (slot xs n) (slot ys n)
joined_slot [] ys n = refl
joined_slot (x ∷ xs) [] zero = refl
joined_slot (x ∷ xs) [] (suc n) = none_right (slot xs n)
  where
    none_right : (o : Option CoreKind) → o ≡ join_options o None
    none_right None = refl
    none_right (Some k) = refl
joined_slot (x ∷ xs) (y ∷ ys) zero = refl
joined_slot (x ∷ xs) (y ∷ ys) (suc n) = joined_slot xs ys n

join_same : (k : CoreKind) → join k k ≡ k
join_same I32 = refl
join_same I64 = refl

join_wide : (k : CoreKind) → join k I64 ≡ I64
join_wide I32 = refl
join_wide I64 = refl

some_is : (j k : CoreKind) → Some j ≡ Some k → j ≡ k
some_is j k e = cc

none_some : (k : CoreKind) → None ≡ Some k → ⊥
none_some k e = cc

-- the greatest of one payload's slot and the others' is theirs joined
step : (l : List ℕ) (t : Ty) (cs : Cases) (n : ℕ) (a b : Option CoreKind) → slot (flat_of t) n ≡ a → IsGreatestSlot cs n b → IsGreatestSlot (carrying l t cs) n (join_options a b)
step l t cs n None None e g = λ k h. elim h [ inl f ↦ none_some k (sym e ∙ f) | inr f ↦ g k f ]
step l t cs n None (Some j) e g = (inr g.0, λ k h. elim h [ inl f ↦ absurd (none_some k (sym e ∙ f)) | inr f ↦ g.1 k f ])
step l t cs n (Some i) None e g = (inl e, λ k h. elim h [ inl f ↦ ap (λ x. join x i) (some_is k i (sym f ∙ e)) ∙ join_same i | inr f ↦ absurd (g k f) ])
step l t cs n (Some I32) (Some I32) e g = (inl e, λ k h. elim h [ inl f ↦ ap (λ x. join x I32) (some_is k I32 (sym f ∙ e)) | inr f ↦ g.1 k f ])
step l t cs n (Some I32) (Some I64) e g = (inr g.0, λ k h. join_wide k)
step l t cs n (Some I64) (Some j) e g = (inl e, λ k h. join_wide k)

greatest : (cs : Cases) (n : ℕ) → IsGreatestSlot cs n (slot (flat_of_cases cs) n)
greatest no_cases n = λ k h. h
greatest (plain l cs) n = same_cases l cs n (slot (flat_of_cases cs) n) (greatest cs n)
  where
    same_cases : (l : List ℕ) (cs : Cases) (n : ℕ) (o : Option CoreKind) → IsGreatestSlot cs n o → IsGreatestSlot (plain l cs) n o
    same_cases l cs n None g = g
    same_cases l cs n (Some k) g = g
greatest (carrying l t cs) n =
    let P : Option CoreKind → Type 0 = λ o. IsGreatestSlot (carrying l t cs) n o in
    subst P (sym (joined_slot (flat_of t) (flat_of_cases cs) n)) (step l t cs n (slot (flat_of t) n) (slot (flat_of_cases cs) n) refl (greatest cs n))

-- the flat kinds of what has cases are joined slot by slot
pub joins_slots : (t : Ty) → JoinsSlots t (flat_of t)
joins_slots (cases k cs) = (refl, greatest cs)
joins_slots _ = tt
