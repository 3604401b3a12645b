-- What the test for equal types computes on lists.
use Rattle.std.proofs.Common.{◌≡◌, ◌≢◌, ℕ, Bool, true, false, ◌&&◌, List, [], ◌∷◌, length, map, Option, Some, None, refl, sym, ap, ◌∙◌, arith}
use Rattle.std.specs.Str.{bytes_eq}
use Rattle.std.proofs.lemmas.List.{length-map}
use Rattle.std.proofs.lemmas.Bool.{and_right}
use Rattle.cm_types.specs.declared.resource.ResourceId.{ResourceId}
use Rattle.cm_types.specs.Types.{Ty, Cases}
use Rattle.cm_types.specs.TypeTrees.{TypedLabel, CaseOf, fields_from, parts_from, cases_from, plain_from, case_before}
use Rattle.cm_types_arena.specs.SameTypes.{same_labels, same_fields, same_cases, same_payload}

and_true : (x y : Bool) → (x && y) ≡ (x && true && y)
and_true true y = refl
and_true false y = refl

and_false : (x y : Bool) → false ≡ (x && false && y)
and_false true y = refl
and_false false y = refl

pub labels_differ : (a b : List (List ℕ)) → length a ≢ length b → same_labels a b ≡ false
labels_differ [] [] n = absurd (n refl)
labels_differ [] (l ∷ ls) n = refl
labels_differ (k ∷ ks) [] n = refl
labels_differ (k ∷ ks) (l ∷ ls) n = and_right _ _ (labels_differ ks ls (λ e. n (omega arith)))

pub mapped_differ : {X Y : Type 0} (f : X → Y) (a b : List X) → length a ≢ length b → length (map f a) ≢ length (map f b)
mapped_differ f a b n e = n (sym (length-map a f) ∙ e ∙ length-map b f)

module _ (rs ss : List ResourceId) where
  pub fields_differ : (a b : List TypedLabel) → length a ≢ length b → same_fields rs ss (fields_from a) (fields_from b) ≡ false
  fields_differ [] [] n = absurd (n refl)
  fields_differ [] (g ∷ gs) n = refl
  fields_differ (f ∷ fs) [] n = refl
  fields_differ (f ∷ fs) (g ∷ gs) n = and_right _ _ (fields_differ fs gs (λ e. n (omega arith)))

  pub parts_differ : (a b : List Ty) → length a ≢ length b → same_fields rs ss (parts_from a) (parts_from b) ≡ false
  parts_differ [] [] n = absurd (n refl)
  parts_differ [] (g ∷ gs) n = refl
  parts_differ (f ∷ fs) [] n = refl
  parts_differ (f ∷ fs) (g ∷ gs) n = and_right _ _ (parts_differ fs gs (λ e. n (omega arith)))

  -- a case in front, and one on each side
  pub before_none : (l : List ℕ) (o : Option Ty) (cs : Cases) → same_cases rs ss (case_before l o cs) (cases_from []) ≡ false
  before_none l None cs = refl
  before_none l (Some t) cs = refl

  pub none_before : (l : List ℕ) (o : Option Ty) (cs : Cases) → same_cases rs ss (cases_from []) (case_before l o cs) ≡ false
  none_before l None cs = refl
  none_before l (Some t) cs = refl

  pub before_both : (k l : List ℕ) (o p : Option Ty) (cs ds : Cases) → same_cases rs ss (case_before k o cs) (case_before l p ds) ≡ (bytes_eq k l && same_payload rs ss o p && same_cases rs ss cs ds)
  before_both k l None None cs ds = and_true (bytes_eq k l) (same_cases rs ss cs ds)
  before_both k l None (Some u) cs ds = and_false (bytes_eq k l) (same_cases rs ss cs ds)
  before_both k l (Some t) None cs ds = and_false (bytes_eq k l) (same_cases rs ss cs ds)
  before_both k l (Some t) (Some u) cs ds = refl

  pub cases_differ : (a b : List CaseOf) → length a ≢ length b → same_cases rs ss (cases_from a) (cases_from b) ≡ false
  cases_differ [] [] n = absurd (n refl)
  cases_differ [] (g ∷ gs) n = none_before g.0 g.1 (cases_from gs)
  cases_differ (f ∷ fs) [] n = before_none f.0 f.1 (cases_from fs)
  cases_differ (f ∷ fs) (g ∷ gs) n = before_both f.0 g.0 f.1 g.1 (cases_from fs) (cases_from gs) ∙ and_right _ _ (cases_differ fs gs (λ e. n (omega arith)))

  -- enums are the same where their labels are
  pub plain_same : (a b : List (List ℕ)) → same_cases rs ss (plain_from a) (plain_from b) ≡ same_labels a b
  plain_same [] [] = refl
  plain_same [] (l ∷ ls) = refl
  plain_same (k ∷ ks) [] = refl
  plain_same (k ∷ ks) (l ∷ ls) = ap (λ b. bytes_eq k l && b) (plain_same ks ls)

  pub enums_same : (r : Bool) (p q a b : List (List ℕ)) → r ≡ same_labels p q → p ≡ a → q ≡ b → r ≡ same_cases rs ss (plain_from a) (plain_from b)
  enums_same r p q a b e f g = e ∙ rw (f, g) (sym (plain_same a b))
