-- What the test for types that a file can spell computes on lists of cases.
use Rattle.std.proofs.Common.{◌≡◌, ℕ, Bool, true, false, not, ◌&&◌, List, [], ◌∷◌, ◌≤◌, length, map, arith, sym, ap, ◌∙◌, Option, Some, None, refl}
use Rattle.cm_types.specs.Types
use Rattle.cm_types.specs.Types.{Ty, Cases, result_type, no_cases}
use Rattle.cm_types.specs.TypeTrees.{TypedLabel, CaseOf, fields_from, parts_from, cases_from, plain_from, case_before}
use Rattle.cm_types.specs.Spellable.{is_spellable, has_no_fields, has_no_cases, are_spellable_payloads, is_spellable_payload}
use Rattle.cm_lemmas.proofs.Bools.{and_true}

pub plain_spellable : (ls : List (List ℕ)) → are_spellable_payloads (plain_from ls) ≡ true
plain_spellable [] = refl
plain_spellable (l ∷ ls) = plain_spellable ls

pub before_not_none : (l : List ℕ) (o : Option Ty) (cs : Cases) → has_no_cases (case_before l o cs) ≡ false
before_not_none l None cs = refl
before_not_none l (Some t) cs = refl

pub before_spellable : (l : List ℕ) (o : Option Ty) (cs : Cases)
    → are_spellable_payloads (case_before l o cs) ≡ (is_spellable_payload o && are_spellable_payloads cs)
before_spellable l None cs = refl
before_spellable l (Some t) cs = refl

pub some_field : {X : Type 0} (f : X → TypedLabel) (xs : List X) → 1 ≤ length xs → false ≡ has_no_fields (fields_from (map f xs))
some_field f [] some = absurd (omega arith)
some_field f (x ∷ xs) some = refl

pub some_part : {X : Type 0} (f : X → Ty) (xs : List X) → 1 ≤ length xs → false ≡ has_no_fields (parts_from (map f xs))
some_part f [] some = absurd (omega arith)
some_part f (x ∷ xs) some = refl

pub some_case : {X : Type 0} (f : X → CaseOf) (xs : List X) → 1 ≤ length xs → false ≡ has_no_cases (cases_from (map f xs))
some_case f [] some = absurd (omega arith)
some_case f (x ∷ xs) some = sym (before_not_none (f x).0 (f x).1 (cases_from (map f xs)))

pub some_label : (ls : List (List ℕ)) → 1 ≤ length ls → false ≡ has_no_cases (plain_from ls)
some_label [] some = absurd (omega arith)
some_label (l ∷ ls) some = refl

pub enum_spellable : (r : Bool) (p ls : List (List ℕ)) → r ≡ has_no_cases (plain_from p) → p ≡ ls
    → not r ≡ (not (has_no_cases (plain_from ls)) && are_spellable_payloads (plain_from ls))
enum_spellable r p ls e f = rw (plain_spellable ls, and_true (not (has_no_cases (plain_from ls)))) (ap not e ∙ ap (λ xs. not (has_no_cases (plain_from xs))) f)

-- the parts of a test, where the first decides and where it does not
pub then_not : (r n m b : Bool) → n ≡ m → n ≡ false → r ≡ b → r ≡ (not m && b)
then_not r n m b e f h = h ∙ ap (λ (x : Bool). not x && b) (sym f ∙ e)

pub else_not : (n m b : Bool) → n ≡ m → n ≡ true → not n ≡ (not m && b)
else_not n m b e f = ap not f ∙ ap (λ (x : Bool). not x && b) (sym f ∙ e)

pub then_and : (r n m b : Bool) → n ≡ m → n ≡ true → r ≡ b → r ≡ (m && b)
then_and r n m b e f h = h ∙ ap (λ (x : Bool). x && b) (sym f ∙ e)

pub else_and : (n m b : Bool) → n ≡ m → n ≡ false → n ≡ (m && b)
else_and n m b e f = f ∙ ap (λ (x : Bool). x && b) (sym f ∙ e)

pub result_spelled : (k l : List ℕ) (p q : Option Ty) → is_spellable (Types.cases result_type (case_before k p (case_before l q no_cases))) ≡ (is_spellable_payload p && is_spellable_payload q)
result_spelled k l p q =
    let rest = case_before l q no_cases in
    let whole = ap (λ (b : Bool). not b && are_spellable_payloads (case_before k p rest)) (before_not_none k p rest) in
    whole ∙ before_spellable k p rest ∙ ap (λ (b : Bool). is_spellable_payload p && b) (before_spellable l q no_cases ∙ and_true (is_spellable_payload q))

pub ruleset cases = (plain_spellable, before_not_none, before_spellable, and_true)
