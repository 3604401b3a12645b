-- What a case is written as.
use Rattle.std.proofs.Common.{◌≡◌, ℕ, zero, suc, ◌<◌, ◌≤◌, List, [], ◌∷◌, ◌++◌, length, get_or, Option, Some, None, refl, sym, ap, ◌∙◌, append-nil, arith}
use Rattle.std.specs.Prelude.{codes}
use Rattle.std.specs.Option.{option_map}
use Rattle.cm_types.specs.Types.{Ty, Cases, CasesKind, cases, no_cases, enum_type, result_type, variant_type}
use Rattle.cm_types.specs.TypeTrees.{case_before, case_of, cases_of, plain_from, type_of}
use Rattle.cm_types.specs.Values.{Val}
use Rattle.cm_types.specs.ValueTrees.{payload_value}
use Rattle.cm_types.specs.declared.type_trees.Case.{Case, out-Case}
use Rattle.cm_types.specs.declared.type_trees.TypeNode.{TypeNode}
use Rattle.cm_types.proofs.Seen.{seen_case}
use Rattle.cm_types.proofs.TypeTreesLaws.{seen_case_label}
use Rattle.cm_values.specs.SpelledNames.{case_word, name_spelling}
use Rattle.cm_values.specs.Spelling.{Words, bare_spelling, bearing_by, case_end, no_words, spelling, spelling_by, usual_by}

-- nothing was written where nothing was to be written
pub nothing_written : (text part : List ℕ) → part ≡ [] → text ≡ text ++ part
nothing_written text part e = sym (append-nil text) ∙ ap (λ (z : List ℕ). text ++ z) (sym e)

-- ---- enums

pub enum_there : (ls : List (List ℕ)) (i : ℕ) (l : List ℕ) → i < length ls → l ≡ get_or ls i l → bare_spelling enum_type (plain_from ls) i ≡ name_spelling l
enum_there [] i l lt is = absurd (omega arith)
enum_there (m ∷ ls) zero l lt is = ap name_spelling (sym is)
enum_there (m ∷ ls) (suc i) l lt is = enum_there ls i l (omega arith) is

pub enum_past : (ls : List (List ℕ)) (i : ℕ) → length ls ≤ i → bare_spelling enum_type (plain_from ls) i ≡ []
enum_past [] i le = refl
enum_past (m ∷ ls) zero le = absurd (omega arith)
enum_past (m ∷ ls) (suc i) le = enum_past ls i (omega arith)

pub enum_bearing : (w : Words) (ls : List (List ℕ)) (i : ℕ) (v : Val) → bearing_by w enum_type (plain_from ls) i v ≡ []
enum_bearing w [] i v = refl
enum_bearing w (m ∷ ls) zero v = refl
enum_bearing w (m ∷ ls) (suc i) v = enum_bearing w ls i v

-- an enum has the text of the notation
pub enum_alike : (w : Words) (ls : List (List ℕ)) (i : ℕ) (p : Option Val) → usual_by w (cases enum_type (plain_from ls)) (payload_value i p) ≡ spelling (cases enum_type (plain_from ls)) (payload_value i p)
enum_alike w ls i None = refl
enum_alike w ls i (Some v) = enum_bearing w ls i v ∙ sym (enum_bearing no_words ls i v)

-- ---- the first of cases, and the others

pub first_case : (w : Words) (k : CasesKind) (l : List ℕ) (o : Option Ty) (cs : Cases) (p : Option Val) → usual_by w (cases k (case_before l o cs)) (payload_value zero p) ≡ case_end (case_word k l) (option_map (spelling_by w) o) p
first_case w k l None cs None = refl
first_case w k l None cs (Some v) = refl
first_case w k l (Some t) cs None = refl
first_case w k l (Some t) cs (Some v) = refl

pub other_case : (w : Words) (k : CasesKind) (l : List ℕ) (o : Option Ty) (cs : Cases) (i : ℕ) (p : Option Val) → usual_by w (cases k (case_before l o cs)) (payload_value (suc i) p) ≡ usual_by w (cases k cs) (payload_value i p)
other_case w k l None cs i None = refl
other_case w k l None cs i (Some v) = refl
other_case w k l (Some t) cs i None = refl
other_case w k l (Some t) cs i (Some v) = refl

no_case : (w : Words) (k : CasesKind) (i : ℕ) (p : Option Val) → usual_by w (cases k no_cases) (payload_value i p) ≡ []
no_case w k i None = refl
no_case w k i (Some v) = refl

-- ---- variants

abbrev pub label_in : Case → List ℕ
label_in c = (out-Case c).label

abbrev pub payload_in : Case → Option TypeNode
payload_in c = (out-Case c).payload

mapped_twice : (w : Words) (o : Option TypeNode) → option_map (spelling_by w) (option_map type_of o) ≡ option_map (λ t. spelling_by w (type_of t)) o
mapped_twice w None = refl
mapped_twice w (Some t) = refl

here : (w : Words) (c : Case) (cs : Cases) (p : Option Val) → usual_by w (cases variant_type (case_before (case_of c).0 (case_of c).1 cs)) (payload_value zero p) ≡ case_end (name_spelling (label_in c)) (option_map (λ t. spelling_by w (type_of t)) (payload_in c)) p
here w c cs p =
    first_case w variant_type (case_of c).0 (case_of c).1 cs p
    ∙ (ap (λ (l : List ℕ). case_end (name_spelling l) (option_map (spelling_by w) (case_of c).1) p) (seen_case_label c)
    ∙ ap (λ (f : Option (Val → List ℕ)). case_end (name_spelling (label_in c)) f p) (ap (option_map (spelling_by w)) (seen_case c) ∙ mapped_twice w (payload_in c)))

pub variant_there : (w : Words) (cs : List Case) (i : ℕ) (c : Case) (p : Option Val) → i < length cs → c ≡ get_or cs i c → usual_by w (cases variant_type (cases_of cs)) (payload_value i p) ≡ case_end (name_spelling (label_in c)) (option_map (λ t. spelling_by w (type_of t)) (payload_in c)) p
variant_there w [] i c p lt is = absurd (omega arith)
variant_there w (d ∷ cs) zero c p lt is = here w d (cases_of cs) p ∙ ap (λ (z : Case). case_end (name_spelling (label_in z)) (option_map (λ t. spelling_by w (type_of t)) (payload_in z)) p) (sym is)
variant_there w (d ∷ cs) (suc i) c p lt is = other_case w variant_type (case_of d).0 (case_of d).1 (cases_of cs) i p ∙ variant_there w cs i c p (omega arith) is

pub variant_past : (w : Words) (cs : List Case) (i : ℕ) (p : Option Val) → length cs ≤ i → usual_by w (cases variant_type (cases_of cs)) (payload_value i p) ≡ []
variant_past w [] i p le = no_case w variant_type i p
variant_past w (d ∷ cs) zero p le = absurd (omega arith)
variant_past w (d ∷ cs) (suc i) p le = other_case w variant_type (case_of d).0 (case_of d).1 (cases_of cs) i p ∙ variant_past w cs i p (omega arith)

-- ---- results

-- the cases of a result
abbrev pub result_cases : Option Ty → Option Ty → Cases
result_cases ok error = case_before (codes "ok") ok (case_before (codes "error") error no_cases)

pub result_ok : (w : Words) (ok error : Option Ty) (p : Option Val) → usual_by w (cases result_type (result_cases ok error)) (payload_value zero p) ≡ case_end (codes "ok") (option_map (spelling_by w) ok) p
result_ok w ok error p = first_case w result_type (codes "ok") ok (case_before (codes "error") error no_cases) p

pub result_error : (w : Words) (ok error : Option Ty) (p : Option Val) → usual_by w (cases result_type (result_cases ok error)) (payload_value (suc zero) p) ≡ case_end (codes "err") (option_map (spelling_by w) error) p
result_error w ok error p = other_case w result_type (codes "ok") ok (case_before (codes "error") error no_cases) zero p ∙ first_case w result_type (codes "error") error no_cases p
