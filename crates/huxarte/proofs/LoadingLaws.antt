-- Files that spell components, and valid components, one more at a time.
use Rattle.std.proofs.Common.{◌≡◌, ℕ, zero, suc, List, [], ◌∷◌, ◌++◌, ◌<◌, ◌⊎◌, inl, inr, false, length, map, Some, sym, ap, subst, ◌∙◌}
use Rattle.std.specs.Prelude.{get_or, slice_get, take}
use Rattle.std.specs.Option.{option_map}
use Rattle.std.proofs.lemmas.Option.{slice_get-get_or, slice_get-map}
use Rattle.std.specs.List.{AllByRecursion}
use Rattle.cm_binary_model.specs.Trees.{SectionTree}
use Rattle.cm_binary_forms.specs.File.{Spells}
use Rattle.cm_match_model.specs.Imports.{LinkSet}
use Rattle.cm_machine_model.specs.declared.event.Misuse.{Misuse}
use Rattle.cm_machine_model.specs.declared.event.Misuse.TheVariants as misuse
use Rattle.cm_machine_model.specs.State.{are_page_counts}
use Rattle.huxarte.specs.Loading.{AreSpelled, IsMisuse}
use Rattle.cm_lemmas.proofs.Options.{some_is}

pub spelled_next : (fs : List (List ℕ)) (i : ℕ) (f : List ℕ) (cs : List (List SectionTree)) (c : List SectionTree)
    → slice_get fs i ≡ Some f → AreSpelled (take i fs) cs → Spells c f → AreSpelled (take (suc i) fs) (cs ++ c ∷ [])
spelled_next [] i f cs c at spelled is = absurd (cc)
spelled_next (g ∷ fs) zero f [] c at spelled is = (subst (λ x. Spells c x) (sym (some_is g f at)) is, tt)
spelled_next (g ∷ fs) zero f (d ∷ cs) c at spelled is = absurd spelled
spelled_next (g ∷ fs) (suc i) f [] c at spelled is = absurd spelled
spelled_next (g ∷ fs) (suc i) f (d ∷ cs) c at spelled is = (spelled.0, spelled_next fs i f cs c at spelled.1 is)

pub spelled_more : {A : Type 0} (now : A → List ℕ) (fs : List A) (i : ℕ) (d : A) (cs : List (List SectionTree)) (c : List SectionTree)
    → i < length fs → AreSpelled (take i (map now fs)) cs → Spells c (now (get_or fs i d)) → AreSpelled (take (suc i) (map now fs)) (cs ++ c ∷ [])
spelled_more now fs i d cs c below spelled is =
    spelled_next (map now fs) i (now (get_or fs i d)) cs c
    (slice_get-map now fs i ∙ ap (option_map now) (slice_get-get_or fs i d below)) spelled is

pub all_next : {A : Type 0} (P : A → Type 0) (xs : List A) (i : ℕ) (x : A) → slice_get xs i ≡ Some x → AllByRecursion P (take i xs) → P x → AllByRecursion P (take (suc i) xs)
all_next P [] i x at all is = absurd (cc)
all_next P (y ∷ xs) zero x at all is = (subst P (sym (some_is y x at)) is, tt)
all_next P (y ∷ xs) (suc i) x at all is = (all.0, all_next P xs i x at all.1 is)

-- why a set is not made, by what making it says
pub misuse_of : (made set : LinkSet) (pages : List ℕ) (m : Misuse) → made ≡ set
    → (m ≡ misuse.BadPages) ⊎ (m ≡ misuse.Memory)
    → (m ≡ misuse.BadPages → are_page_counts (length made.spaces) pages ≡ false)
    → IsMisuse set pages m
misuse_of made set pages m same only bad = subst (λ s. IsMisuse s pages m) same (elim only [
  | inl is ↦ subst (IsMisuse made pages) (sym is) (bad is)
  | inr is ↦ subst (IsMisuse made pages) (sym is) tt
])
