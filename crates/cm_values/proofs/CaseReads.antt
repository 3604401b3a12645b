-- What reading the name of a case, and what stands behind it, comes to.
use Rattle.std.proofs.Common.{◌≡◌, ℕ, zero, suc, ◌<◌, ◌≤◌, List, [], ◌∷◌, length, get_or, Option, Some, None, Ok, Err, refl, sym, ap, subst, ◌∙◌, arith, rules, Box, Global}
use Rattle.std.specs.Prelude.{codes}
use Rattle.std.specs.Option.{option_map}
use Rattle.cm_types.specs.Types.{Ty, Cases, cases, no_cases, plain, carrying, enum_type, result_type, variant_type}
use Rattle.cm_types.specs.TypeTrees.{case_before, case_of, cases_of, plain_from, type_of}
use Rattle.cm_types.specs.Values.{Val, bare, bearing}
use Rattle.cm_types.specs.ValueTrees.{value_of}
use Rattle.cm_types.specs.declared.values.Value.{Value, the_lemmas}
use Rattle.cm_types.specs.declared.values.Value.TheViews as value_is
use Rattle.cm_types.specs.declared.type_trees.Case.{Case, out-Case}
use Rattle.cm_types.specs.declared.type_trees.TypeNode.{TypeNode}
use Rattle.cm_types.proofs.Seen.{seen_case}
use Rattle.cm_values.specs.declared.value_fault.ReadError.{ReadError}
use Rattle.cm_values.specs.declared.value_fault.ReadError.TheVariants as errors
use Rattle.cm_values.specs.declared.value_fault.ValueReason.TheVariants as reason
use Rattle.cm_values.specs.ReadFaults.{Fails, flaw}
use Rattle.cm_values.specs.Grammar.{Grammar, ◌>>=◌, done}
use Rattle.cm_values.specs.CaseNames.{case_names}
use Rattle.cm_values.specs.Values.{case_rest, case_value, known_case, payload_value, value}
use Rattle.cm_values.specs.Words.{known, mark}
use Rattle.cm_values.proofs.NameLaws.{enum_names}

-- one thing was read, and then another is
pub bind_reads : {A B : Type 0} (g : Grammar A) (h : A → Grammar B) (x : A) (old mid : List ℕ) → g.reads old ≡ Ok (x, mid) → (g >>= h).reads old ≡ (h x).reads mid
bind_reads g h x old mid e = rw e refl

pub bind_fails : {A B : Type 0} (g : Grammar A) (h : A → Grammar B) (e : ReadError) (old : List ℕ) → Fails e (g.reads old) → Fails e ((g >>= h).reads old)
bind_fails g h errors.Memory old f = tt
bind_fails g h (errors.Fault d) old f = rw f refl

-- ---- payloads

pub payload_reads : (g : Grammar Val) (n : ℕ) (old inside behind rest : List ℕ) (u w : Unit {0}) (v : Val) → (mark 0x28).reads old ≡ Ok (u, inside) → g.reads inside ≡ Ok (v, behind) → (mark 0x29).reads behind ≡ Ok (w, rest) → (payload_value g n).reads old ≡ Ok (bearing n v, rest)
payload_reads g n old inside behind rest u w v e f h =
    bind_reads (mark 0x28) (λ (_ : Unit {0}). g >>= λ x. mark 0x29 >>= λ _. done (bearing n x)) u old inside e
    ∙ (bind_reads g (λ (x : Val). mark 0x29 >>= λ _. done (bearing n x)) v inside behind f
    ∙ bind_reads (mark 0x29) (λ (_ : Unit {0}). done (bearing n v)) w behind rest h)

pub seen_bearing : (i : ℕ) (b : Box Value Global) → value_of (value_is.Case i (Some b)) ≡ bearing i (value_of b.value)
seen_bearing i b = search (rules, the_lemmas)

-- ---- the first of cases, and the others

first_rest : (l : List ℕ) (o : Option Ty) (cs : Cases) (n : ℕ) (bytes : List ℕ) → (case_rest (case_before l o cs) zero n).reads bytes ≡ (case_value n o).reads bytes
first_rest l None cs n bytes = refl
first_rest l (Some t) cs n bytes = refl

other_rest : (l : List ℕ) (o : Option Ty) (cs : Cases) (i n : ℕ) (bytes : List ℕ) → (case_rest (case_before l o cs) (suc i) n).reads bytes ≡ (case_rest cs i n).reads bytes
other_rest l None cs i n bytes = refl
other_rest l (Some t) cs i n bytes = refl

-- ---- variants

abbrev pub payload_in : Case → Option TypeNode
payload_in c = (out-Case c).payload

rest_at : (cs : List Case) (i n : ℕ) (c : Case) (bytes : List ℕ) → i < length cs → c ≡ get_or cs i c → (case_rest (cases_of cs) i n).reads bytes ≡ (case_value n (option_map type_of (payload_in c))).reads bytes
rest_at [] i n c bytes lt is = absurd (omega arith)
rest_at (d ∷ cs) zero n c bytes lt is =
    first_rest (case_of d).0 (case_of d).1 (cases_of cs) n bytes
    ∙ ap (λ (o : Option Ty). (case_value n o).reads bytes) (seen_case d ∙ ap (λ (z : Case). option_map type_of (payload_in z)) (sym is))
rest_at (d ∷ cs) (suc i) n c bytes lt is = other_rest (case_of d).0 (case_of d).1 (cases_of cs) i n bytes ∙ rest_at cs i n c bytes (omega arith) is

rest_past : (cs : List Case) (i n : ℕ) (bytes : List ℕ) → length cs ≤ i → (case_rest (cases_of cs) i n).reads bytes ≡ Err (flaw (length bytes) reason.UnknownName)
rest_past [] i n bytes le = refl
rest_past (d ∷ cs) zero n bytes le = absurd (omega arith)
rest_past (d ∷ cs) (suc i) n bytes le = other_rest (case_of d).0 (case_of d).1 (cases_of cs) i n bytes ∙ rest_past cs i n bytes (omega arith)

abbrev variant_names : List Case → Grammar ℕ
variant_names cs = known_case (case_names variant_type (cases_of cs))

pub variant_reads : (cs : List Case) (i : ℕ) (c : Case) (old mid : List ℕ) → i < length cs → c ≡ get_or cs i c → (known_case (case_names variant_type (cases_of cs))).reads old ≡ Ok (i, mid) → (value (cases variant_type (cases_of cs))).reads old ≡ (case_value i (option_map type_of (payload_in c))).reads mid
variant_reads cs i c old mid lt is e = bind_reads (variant_names cs) (λ (n : ℕ). case_rest (cases_of cs) n n) i old mid e ∙ rest_at cs i i c mid lt is

pub variant_reads_past : (cs : List Case) (i : ℕ) (old mid : List ℕ) → length cs ≤ i → (known_case (case_names variant_type (cases_of cs))).reads old ≡ Ok (i, mid) → (value (cases variant_type (cases_of cs))).reads old ≡ Err (flaw (length mid) reason.UnknownName)
variant_reads_past cs i old mid le e = bind_reads (variant_names cs) (λ (n : ℕ). case_rest (cases_of cs) n n) i old mid e ∙ rest_past cs i i mid le

pub variant_fails : (cs : List Case) (e : ReadError) (old : List ℕ) → Fails e ((known_case (case_names variant_type (cases_of cs))).reads old) → Fails e ((value (cases variant_type (cases_of cs))).reads old)
variant_fails cs e old h = bind_fails (variant_names cs) (λ (n : ℕ). case_rest (cases_of cs) n n) e old h

-- ---- enums

enum_rest : (ls : List (List ℕ)) (i n : ℕ) (bytes : List ℕ) → i < length ls → (case_rest (plain_from ls) i n).reads bytes ≡ Ok (bare n, bytes)
enum_rest [] i n bytes lt = absurd (omega arith)
enum_rest (l ∷ ls) zero n bytes lt = refl
enum_rest (l ∷ ls) (suc i) n bytes lt = enum_rest ls i n bytes (omega arith)

enum_known : (ls : List (List ℕ)) (old : List ℕ) → (known_case (case_names enum_type (plain_from ls))).reads old ≡ (known_case ls).reads old
enum_known ls old = ap (λ (z : List (List ℕ)). (known_case z).reads old) (enum_names ls)

abbrev enum_cases : List (List ℕ) → Grammar ℕ
enum_cases ls = known_case (case_names enum_type (plain_from ls))

pub enum_reads : (ls : List (List ℕ)) (i : ℕ) (old mid : List ℕ) → i < length ls → (known_case ls).reads old ≡ Ok (i, mid) → (value (cases enum_type (plain_from ls))).reads old ≡ Ok (bare i, mid)
enum_reads ls i old mid lt e = bind_reads (enum_cases ls) (λ (n : ℕ). case_rest (plain_from ls) n n) i old mid (enum_known ls old ∙ e) ∙ enum_rest ls i i mid lt

pub enum_fails : (ls : List (List ℕ)) (e : ReadError) (old : List ℕ) → Fails e ((known_case ls).reads old) → Fails e ((value (cases enum_type (plain_from ls))).reads old)
enum_fails ls e old h = bind_fails (enum_cases ls) (λ (n : ℕ). case_rest (plain_from ls) n n) e old (subst (Fails e) (sym (enum_known ls old)) h)

-- ---- options

abbrev pub option_cases : Ty → Cases
option_cases t = plain (codes "none") (carrying (codes "some") t no_cases)

-- ---- results

abbrev pub result_names : List (List ℕ)
result_names = codes "ok" ∷ codes "err" ∷ []

abbrev pub result_cases : Option Ty → Option Ty → Cases
result_cases ok error = case_before (codes "ok") ok (case_before (codes "error") error no_cases)

names_of_result : (ok error : Option Ty) → case_names result_type (result_cases ok error) ≡ result_names
names_of_result None None = refl
names_of_result None (Some u) = refl
names_of_result (Some t) None = refl
names_of_result (Some t) (Some u) = refl

abbrev result_known : Option Ty → Option Ty → Grammar ℕ
result_known ok error = known_case (case_names result_type (result_cases ok error))

known_of_result : (ok error : Option Ty) (old : List ℕ) → (result_known ok error).reads old ≡ (known result_names).reads old
known_of_result ok error old = ap (λ (z : List (List ℕ)). (known_case z).reads old) (names_of_result ok error)

pub result_ok : (ok error : Option Ty) (old mid : List ℕ) → (known result_names).reads old ≡ Ok (0, mid) → (value (cases result_type (result_cases ok error))).reads old ≡ (case_value 0 ok).reads mid
result_ok ok error old mid e =
    bind_reads (result_known ok error) (λ (n : ℕ). case_rest (result_cases ok error) n n) 0 old mid (known_of_result ok error old ∙ e)
    ∙ first_rest (codes "ok") ok (case_before (codes "error") error no_cases) 0 mid

pub result_error : (ok error : Option Ty) (old mid : List ℕ) → (known result_names).reads old ≡ Ok (1, mid) → (value (cases result_type (result_cases ok error))).reads old ≡ (case_value 1 error).reads mid
result_error ok error old mid e =
    bind_reads (result_known ok error) (λ (n : ℕ). case_rest (result_cases ok error) n n) 1 old mid (known_of_result ok error old ∙ e)
    ∙ (other_rest (codes "ok") ok (case_before (codes "error") error no_cases) 0 1 mid ∙ first_rest (codes "error") error no_cases 1 mid)
