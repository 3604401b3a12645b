-- The places of names among labels.
use Rattle.std.proofs.Common.{◌≡◌, ℕ, suc, ◌+◌, ◌<◌, ◌≤◌, true, false, List, [], ◌∷◌, length, map, drop, get_or, Option, Some, None, Result, Ok, Err, refl, ap, ◌∙◌, arith}
use Rattle.std.specs.Str.{bytes_eq}
use Rattle.cm_types.specs.Types.{Ty, Cases, enum_type, variant_type}
use Rattle.cm_types.specs.TypeTrees.{case_before, case_of, cases_of, plain_from}
use Rattle.cm_types.specs.declared.type_trees.Case.{Case, out-Case}
use Rattle.cm_types.proofs.TypeTreesLaws.{seen_case_label}
use Rattle.cm_lemmas.proofs.Lists.{drop_past, rest_from}
use Rattle.cm_values.specs.declared.value_fault.ValueReason.{ValueReason}
use Rattle.cm_values.specs.declared.value_fault.ValueReason.TheVariants as reason
use Rattle.cm_values.specs.CaseNames.{case_names}
use Rattle.cm_values.specs.Words.{one_more, place_in}

-- a place so many places further
abbrev pub shift : ℕ → Result ℕ ValueReason → Result ℕ ValueReason
shift n (Ok m) = Ok (n + m)
shift n (Err why) = Err why

shift_none : (r : Result ℕ ValueReason) → shift 0 r ≡ r
shift_none (Ok m) = let e : 0 + m ≡ m = omega arith in ap (λ (k : ℕ). Ok k) e
shift_none (Err why) = refl

shift_more : (n : ℕ) (r : Result ℕ ValueReason) → shift n (one_more r) ≡ shift (n + 1) r
shift_more n (Ok m) = let e : n + suc m ≡ n + 1 + m = omega arith in ap (λ (k : ℕ). Ok k) e
shift_more n (Err why) = refl

-- ---- labels

pub place_begins : (ls : List (List ℕ)) (text : List ℕ) → shift 0 (place_in (drop 0 ls) text) ≡ place_in ls text
place_begins ls text = shift_none (place_in ls text)

pub place_here : (ls : List (List ℕ)) (text : List ℕ) (i : ℕ) (l : List ℕ) → i < length ls → l ≡ get_or ls i l → bytes_eq l text ≡ true → shift i (place_in (drop i ls) text) ≡ Ok i
place_here ls text i l lt is e = let k : i + 0 ≡ i = omega arith in rw (rest_from ls i l lt is, e) (ap (λ (n : ℕ). Ok n) k)

pub place_next : (ls : List (List ℕ)) (text : List ℕ) (i : ℕ) (l : List ℕ) → i < length ls → l ≡ get_or ls i l → bytes_eq l text ≡ false → shift i (place_in (drop i ls) text) ≡ shift (i + 1) (place_in (drop (i + 1) ls) text)
place_next ls text i l lt is e = rw (rest_from ls i l lt is, e) (shift_more i (place_in (drop (i + 1) ls) text))

pub place_end : (ls : List (List ℕ)) (text : List ℕ) (i : ℕ) → length ls ≤ i → shift i (place_in (drop i ls) text) ≡ Err reason.UnknownName
place_end ls text i le = rw (drop_past ls i le) refl

pub ruleset place_laws = (place_begins, place_here, place_next, place_end)

-- ---- the labels of cases

labels_before : (l : List ℕ) (o : Option Ty) (cs : Cases) → case_names variant_type (case_before l o cs) ≡ l ∷ case_names variant_type cs
labels_before l None cs = refl
labels_before l (Some t) cs = refl

pub enum_names : (ls : List (List ℕ)) → case_names enum_type (plain_from ls) ≡ ls
enum_names [] = refl
enum_names (l ∷ ls) = ap (λ (z : List (List ℕ)). l ∷ z) (enum_names ls)

-- the label of a case of the code
abbrev pub label_in : Case → List ℕ
label_in c = (out-Case c).label

pub labels_of : (cs : List Case) → case_names variant_type (cases_of cs) ≡ map label_in cs
labels_of [] = refl
labels_of (c ∷ cs) =
    labels_before (case_of c).0 (case_of c).1 (cases_of cs)
    ∙ (ap (λ (ls : List (List ℕ)). (case_of c).0 ∷ ls) (labels_of cs) ∙ ap (λ (l : List ℕ). l ∷ map label_in cs) (seen_case_label c))

pub label_count : (cs : List Case) → length (case_names variant_type (cases_of cs)) ≡ length cs
label_count cs = ap length (labels_of cs) ∙ count cs
  where
    count : (cs : List Case) → length (map label_in cs) ≡ length cs
    count [] = refl
    count (c ∷ cs) = ap (λ (n : ℕ). suc n) (count cs)

-- the same places, as the loop over cases meets them
abbrev pub place_from : List Case → List ℕ → ℕ → Result ℕ ValueReason
place_from cs text i = shift i (place_in (case_names variant_type (cases_of (drop i cs))) text)
