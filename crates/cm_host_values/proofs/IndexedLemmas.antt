-- Types with u32 in the place of each handle, as the code builds them.
use Rattle.std.proofs.Common.{◌≡◌, ℕ, List, [], ◌∷◌, map, Option, Some, None, refl, ap, sym, ◌∙◌, codes, false}
use Rattle.std.specs.Option.{option_map}
use Rattle.cm_types.specs.Holds.{fields_hold, holds, is_handle}
use Rattle.cm_types.specs.Types.{Ty, Fields, Cases, result_type, option_type, enum_type, cases, no_fields, field, no_cases, plain, carrying}
use Rattle.cm_types.specs.TypeTrees.{TypedLabel, CaseOf, fields_from, parts_from, cases_from, plain_from, case_before}
use Rattle.cm_host_values.specs.Indexed.{indexed, indexed_fields, indexed_cases, indexed_field, indexed_case, host_types}
use Rattle.cm_host_values.proofs.IndexedLaws.{without}
use Rattle.cm_lemmas.proofs.Bools.{or_left, or_right}

pub fields_by : (fs : List TypedLabel) → fields_from (map indexed_field fs) ≡ indexed_fields (fields_from fs)
fields_by [] = refl
fields_by (f ∷ fs) = ap (field f.0 (indexed f.1)) (fields_by fs)

pub parts_by : (ts : List Ty) → parts_from (map indexed ts) ≡ indexed_fields (parts_from ts)
parts_by [] = refl
parts_by (t ∷ ts) = ap (field [] (indexed t)) (parts_by ts)

pub before_by : (l : List ℕ) (p : Option Ty) (cs : Cases) → case_before l (option_map indexed p) (indexed_cases cs) ≡ indexed_cases (case_before l p cs)
before_by l None cs = refl
before_by l (Some t) cs = refl

pub cases_by : (cs : List CaseOf) → cases_from (map indexed_case cs) ≡ indexed_cases (cases_from cs)
cases_by [] = refl
cases_by (c ∷ cs) = ap (case_before c.0 (option_map indexed c.1)) (cases_by cs) ∙ before_by c.0 c.1 (cases_from cs)

pub plain_by : (ls : List (List ℕ)) → indexed_cases (plain_from ls) ≡ plain_from ls
plain_by [] = refl
plain_by (l ∷ ls) = ap (plain l) (plain_by ls)

pub result_by : (p q : Option Ty) → cases result_type (case_before (codes "ok") (option_map indexed p) (case_before (codes "error") (option_map indexed q) no_cases))
    ≡ indexed (cases result_type (case_before (codes "ok") p (case_before (codes "error") q no_cases)))
result_by p q = ap (cases result_type) (ap (case_before (codes "ok") (option_map indexed p)) (before_by (codes "error") q no_cases) ∙ before_by (codes "ok") p (case_before (codes "error") q no_cases))

-- a row of types
pub rows_by : (fs : List TypedLabel) → parts_from (map (λ (f : TypedLabel). indexed f.1) fs) ≡ host_types (fields_from fs)
rows_by [] = refl
rows_by (f ∷ fs) = ap (field [] (indexed f.1)) (rows_by fs)

-- a row of types without handles
pub row_again : (ts : List Ty) → fields_hold is_handle (parts_from ts) ≡ false → parts_from ts ≡ host_types (parts_from ts)
row_again [] h = refl
row_again (t ∷ ts) h =
    sym (ap (λ u. field [] u (host_types (parts_from ts))) (without t (or_left (holds is_handle t) (fields_hold is_handle (parts_from ts)) h))
    ∙ ap (field [] t) (sym (row_again ts (or_right (holds is_handle t) (fields_hold is_handle (parts_from ts)) h))))

pub ruleset indexed_laws = (fields_by, parts_by, cases_by, plain_by, result_by)
