-- What several things stand for, one after another.
use Rattle.std.proofs.Common.{◌≡◌, ℕ, ◌<◌, ◌≤◌, ◌+◌, Bool, false, List, [], ◌∷◌, ◌++◌, length, drop, get_or, Option, Some, None, refl, sym, ap, ◌∙◌, append-nil, subst}
use Rattle.std.specs.Option.{option_map, option_and_then}
use Rattle.std.proofs.lemmas.List.{drop_all}
use Rattle.cm_wit_meanings.specs.declared.fault.MeaningFault.{MeaningFault}
use Rattle.cm_wit_meanings.specs.declared.fault.MeaningFault.TheVariants as fault
use Rattle.cm_wit_meanings.specs.Meanings.{each_meaning}
use Rattle.cm_wit_meanings.specs.Faults.{IsFaultOf}
use Rattle.cm_lemmas.proofs.Lists.{behind, behind_none, behind_one, rest_from}

-- What these stand for was found up to the i-th, and with the rest makes all.
pub record Makes {A B : Type 0} (meant : A → Option B) (all : List A) (i : ℕ) (now : List B) : Type 0 where
  pub is : behind now (each_meaning meant (drop i all)) ≡ each_meaning meant all

-- what one stands for, in front of what the others do
abbrev pub in_front : {B : Type 0} → Option B → Option (List B) → Option (List B)
in_front o rest = option_and_then (λ y. option_map (λ ys. y ∷ ys) rest) o

module _ {A B : Type 0} (meant : A → Option B) (all : List A) where
  pub makes_none : Makes meant all 0 []
  makes_none = record { is = behind_none (each_meaning meant all) }

  pub makes_next : (i : ℕ) (x : A) (y : B) (now : List B) → i < length all → x ≡ get_or all i x → meant x ≡ Some y → Makes meant all i now → Makes meant all (i + 1) (now ++ y ∷ [])
  makes_next i x y now lt e p m = record {
    is = behind_one now y (each_meaning meant (drop (i + 1) all))
        ∙ (sym (ap (λ (o : Option B). behind now (in_front o (each_meaning meant (drop (i + 1) all)))) p)
        ∙ (sym (ap (λ (xs : List A). behind now (each_meaning meant xs)) (rest_from all i x lt e)) ∙ m.is));
  }

  pub makes_all : (i : ℕ) (now : List B) → length all ≤ i → Makes meant all i now → each_meaning meant all ≡ Some now
  makes_all i now le m =
      sym m.is ∙ (ap (λ (xs : List A). behind now (each_meaning meant xs)) (drop_all i all le) ∙ ap Some (append-nil now))

  module _ (IsWhole : List B → Type 0) (is_whole : List B → Bool) (IsPartWithin : B → Type 0) (is_part_spelled : B → Bool)
      (within : (front : List B) (y : B) (rest : List B) → IsWhole (front ++ y ∷ rest) → IsPartWithin y)
      (spelled : (front : List B) (y : B) (rest : List B) → is_part_spelled y ≡ false → is_whole (front ++ y ∷ rest) ≡ false) where
    part_fault : (front : List B) (o : Option B) (rest : Option (List B)) (f : MeaningFault) → IsFaultOf IsPartWithin is_part_spelled o f → IsFaultOf IsWhole is_whole (behind front (in_front o rest)) f
    part_fault front None rest fault.NoSuchType h = refl
    part_fault front (Some y) rest fault.NoSuchType h = absurd cc
    part_fault front None rest fault.TooLarge h = tt
    part_fault front (Some y) None fault.TooLarge h = tt
    part_fault front (Some y) (Some ys) fault.TooLarge h = λ w. h (within front y ys w)
    part_fault front None rest fault.NotSpellable h = tt
    part_fault front (Some y) None fault.NotSpellable h = tt
    part_fault front (Some y) (Some ys) fault.NotSpellable h = spelled front y ys h
    part_fault front o rest fault.Memory h = tt

    pub makes_fault : (i : ℕ) (x : A) (now : List B) (f : MeaningFault) → i < length all → x ≡ get_or all i x → IsFaultOf IsPartWithin is_part_spelled (meant x) f → Makes meant all i now → IsFaultOf IsWhole is_whole (each_meaning meant all) f
    makes_fault i x now f lt e h m =
        let told : behind now (in_front (meant x) (each_meaning meant (drop (i + 1) all))) ≡ each_meaning meant all =
        sym (ap (λ (xs : List A). behind now (each_meaning meant xs)) (rest_from all i x lt e)) ∙ m.is in
        subst (λ (o : Option (List B)). IsFaultOf IsWhole is_whole o f) told (part_fault now (meant x) (each_meaning meant (drop (i + 1) all)) f h)
