-- Checks that are listed one after another.
use Rattle.std.proofs.Common.{◌≡◌, ℕ, zero, suc, ◌+◌, ◌<◌, ◌≤◌, List, [], ◌∷◌, ◌++◌, append_assoc, append-nil, drop, length, map, get_or, refl, sym, ap, ◌∙◌, arith}
use Rattle.std.proofs.lemmas.Bool.{le-ltb, lt-ltb}
use Rattle.std.proofs.lemmas.Bool.Decides.{nat_tests}
use Rattle.std.proofs.lemmas.List.{drop_more, map-append}
use Rattle.std.specs.Prelude.{true, false, ◌&&◌, ◌==◌, Option, Some, None}
use Rattle.std.specs.declared.alloc.Global.{Global}
use Rattle.std.specs.declared.sync.Arc.{Arc}
use Rattle.std.specs.declared.vec.Vec.{Vec}
use Rattle.cm_layout.specs.Layouts.{nothings}
use Rattle.cm_layout.specs.Shapes.{LayoutTy, Parts, no_parts, part, payloads_from}
use Rattle.cm_abi_programs.specs.declared.limits.TheConstants.{FEW}
use Rattle.cm_abi_programs.specs.Checks.{Checks, CaseChecks, no_checks, check, case, below_check, each_check, cases_check, part_check}
use Rattle.cm_abi_programs.specs.Checks.{are_unchecked, both_checks, case_count, cases_checks, check_count, checks_of, field_checks, flat_checks_of, flat_field_checks, flat_payload_checks, is_unchecked, moved_check, moved_checks, one_check, payload_checks, placed_checks, row_checks}
use Rattle.cm_abi_programs.specs.Coded.{case_of, cases_from, check_lists, check_of, checks_in, checks_from}
use Rattle.cm_abi_programs.specs.declared.checks.CaseChecks.{CaseChecks as CodedCase}
use Rattle.cm_abi_programs.specs.declared.checks.Check.TheViews as view
use Rattle.cm_abi_programs.proofs.CheckForms.{seen_case}
use Rattle.cm_abi_programs.specs.Held.{part_offsets, part_shapes, slot_offsets}
use Rattle.cm_abi_programs.specs.PlacedFields.{checks_placed}
use Rattle.cm_abi_programs.specs.declared.checks.Check.{Check as CodedCheck}
use Rattle.cm_abi_programs.proofs.ShapeLemmas.{carried_lists}
use Rattle.cm_lemmas.proofs.Lists.{drop_past, next_element}

pub both_behind : (es bs cs : Checks) → both_checks (both_checks es bs) cs ≡ both_checks es (both_checks bs cs)
both_behind no_checks bs cs = refl
both_behind (check a es) bs cs = ap (λ xs. check a xs) (both_behind es bs cs)

pub none_behind : (es : Checks) → both_checks es no_checks ≡ es
none_behind no_checks = refl
none_behind (check a es) = ap (λ xs. check a xs) (none_behind es)

pub pushed : (xs : List CodedCheck) (c : CodedCheck) → checks_in (xs ++ c ∷ []) ≡ both_checks (checks_in xs) (one_check (check_of c))
pushed [] c = refl
pushed (x ∷ xs) c = ap (λ cs. check (check_of x) cs) (pushed xs c)

-- ---- checks of a value that begins elsewhere

pub moved_next : (cs : List CodedCheck) (i by : ℕ) (x y : CodedCheck) (front all : List CodedCheck) → i < length cs → x ≡ get_or cs i x
    → check_of y ≡ moved_check by (check_of x) → all ≡ front ++ y ∷ []
    → both_checks (checks_in all) (moved_checks by (checks_in (drop (i + 1) cs)))
    ≡ both_checks (checks_in front) (moved_checks by (checks_in (drop i cs)))
moved_next cs i by x y front all lt is moved grown =
    ap (λ xs. both_checks (checks_in xs) (moved_checks by (checks_in (drop (i + 1) cs)))) grown
    ∙ ap (λ xs. both_checks xs (moved_checks by (checks_in (drop (i + 1) cs)))) (pushed front y)
    ∙ both_behind (checks_in front) (one_check (check_of y)) (moved_checks by (checks_in (drop (i + 1) cs)))
    ∙ ap (λ d. both_checks (checks_in front) (check d (moved_checks by (checks_in (drop (i + 1) cs))))) moved
    ∙ ap (λ xs. both_checks (checks_in front) (moved_checks by (checks_from xs))) (sym (next_element check_of cs i x lt is))

pub moved_end : (cs : List CodedCheck) (i by : ℕ) (front : List CodedCheck) → length cs ≤ i
    → checks_in front ≡ both_checks (checks_in front) (moved_checks by (checks_in (drop i cs)))
moved_end cs i by front past =
    sym (none_behind (checks_in front)) ∙ ap (λ xs. both_checks (checks_in front) (moved_checks by (checks_in xs))) (sym (drop_past cs i past))

-- ---- fields

-- one more field
pub placed_next : (os : List ℕ) (cs : List (Arc (Vec CodedCheck Global) Global)) (i o : ℕ) (c : Arc (Vec CodedCheck Global) Global) (front all : Checks)
    → i < length os → i < length cs → o ≡ get_or os i 0 → c ≡ get_or cs i c
    → all ≡ both_checks front (placed_checks o (checks_in c.value.items))
    → both_checks all (checks_placed (drop (i + 1) os) (check_lists (drop (i + 1) cs))) ≡ both_checks front (checks_placed (drop i os) (check_lists (drop i cs)))
placed_next os cs i o c front all within held place list grown =
    let rest = checks_placed (drop (i + 1) os) (check_lists (drop (i + 1) cs)) in
    ap (λ xs. both_checks xs rest) grown
    ∙ both_behind front (placed_checks o (checks_in c.value.items)) rest
    ∙ ap (λ xs. both_checks front (checks_placed (o ∷ drop (i + 1) os) xs)) (sym (next_element (λ (l : Arc (Vec CodedCheck Global) Global). checks_in l.value.items) cs i c held list))
    ∙ ap (λ qs. both_checks front (checks_placed qs (check_lists (drop i cs)))) (sym (drop_more os i 0 within ∙ ap (λ q. q ∷ drop (i + 1) os) (sym place)))

pub placed_end : (os : List ℕ) (cs : List Checks) (i : ℕ) (front : Checks) → length os ≤ i → front ≡ both_checks front (checks_placed (drop i os) cs)
placed_end os cs i front past = sym (none_behind front) ∙ ap (λ qs. both_checks front (checks_placed qs cs)) (sym (drop_past os i past))

pub fields_placed : (ps : Parts) → checks_placed (part_offsets ps) (map checks_of (part_shapes ps)) ≡ field_checks ps
fields_placed no_parts = refl
fields_placed (part o e x ps) = ap (λ cs. both_checks (placed_checks o (checks_of x)) cs) (fields_placed ps)

pub flat_fields_placed : (ps : Parts) (at : ℕ) → checks_placed (slot_offsets ps at) (map flat_checks_of (part_shapes ps)) ≡ flat_field_checks ps at
flat_fields_placed no_parts at = refl
flat_fields_placed (part o e x ps) at = ap (λ cs. both_checks (placed_checks at (flat_checks_of x)) cs) (flat_fields_placed ps (at + e.width))

-- ---- what cases carry

pub case_next : (cs : List (Arc (Vec CodedCheck Global) Global)) (i : ℕ) (x y : Arc (Vec CodedCheck Global) Global) (front all : List CodedCase) → i < length cs → x ≡ get_or cs i x → y.value ≡ x.value
    → all ≡ front ++ view.roll-CaseChecks (record { checks = y }) ∷ [] → map case_of all ++ check_lists (drop (i + 1) cs) ≡ map case_of front ++ check_lists (drop i cs)
case_next cs i x y front all lt is copy grown =
    let rest = check_lists (drop (i + 1) cs) in
    ap (λ xs. map case_of xs ++ rest) grown
    ∙ ap (λ xs. xs ++ rest) (map-append case_of front (view.roll-CaseChecks (record { checks = y }) ∷ []))
    ∙ append_assoc (map case_of front) (case_of (view.roll-CaseChecks (record { checks = y })) ∷ []) rest
    ∙ ap (λ d. map case_of front ++ d ∷ rest) (seen_case y ∙ ap (λ (v : Vec CodedCheck Global). checks_in v.items) copy)
    ∙ ap (λ ls. map case_of front ++ ls) (sym (next_element (λ (l : Arc (Vec CodedCheck Global) Global). checks_in l.value.items) cs i x lt is))

pub case_end : (cs : List (Arc (Vec CodedCheck Global) Global)) (i : ℕ) (front : List CodedCase) → length cs ≤ i → map case_of front ≡ map case_of front ++ check_lists (drop i cs)
case_end cs i front past = sym (append-nil (map case_of front)) ∙ ap (λ xs. map case_of front ++ check_lists xs) (sym (drop_past cs i past))

pub cases_carried : (ps : List (Option LayoutTy)) → cases_from (carried_lists checks_in checks_of ps) ≡ payload_checks (payloads_from ps)
cases_carried [] = refl
cases_carried (None ∷ ps) = ap (λ cs. case no_checks cs) (cases_carried ps)
cases_carried (Some l ∷ ps) = ap (λ cs. case (checks_of l.shape) cs) (cases_carried ps)

pub flat_cases_carried : (ps : List (Option LayoutTy)) → cases_from (carried_lists checks_in flat_checks_of ps) ≡ flat_payload_checks (payloads_from ps)
flat_cases_carried [] = refl
flat_cases_carried (None ∷ ps) = ap (λ cs. case no_checks cs) (flat_cases_carried ps)
flat_cases_carried (Some l ∷ ps) = ap (λ cs. case (flat_checks_of l.shape) cs) (flat_cases_carried ps)

-- ---- an enum

unchecked_nothings : (n : ℕ) → are_unchecked (payload_checks (nothings n)) ≡ true
unchecked_nothings zero = refl
unchecked_nothings (suc n) = unchecked_nothings n

count_nothings : (n : ℕ) → case_count (payload_checks (nothings n)) ≡ n
count_nothings zero = refl
count_nothings (suc n) = ap suc (count_nothings n)

pub enum_checks : (b n : ℕ) → one_check (below_check 0 b n) ≡ cases_checks b b (payload_checks (nothings n))
enum_checks b n = rw (unchecked_nothings n, count_nothings n) refl

flat_nothings : (n : ℕ) → flat_payload_checks (nothings n) ≡ payload_checks (nothings n)
flat_nothings zero = refl
flat_nothings (suc n) = ap (λ cs. case no_checks cs) (flat_nothings n)

pub flat_enum_checks : (n : ℕ) → one_check (below_check 0 4 n) ≡ cases_checks 4 1 (flat_payload_checks (nothings n))
flat_enum_checks n = rw (flat_nothings n, unchecked_nothings n, count_nothings n) refl

-- ---- what is empty

pub empty_unchecked : (xs : List CodedCheck) → (length xs == 0) ≡ is_unchecked (checks_in xs)
empty_unchecked [] = refl
empty_unchecked (x ∷ xs) = neq_zero (length xs)
  where
    neq_zero : (n : ℕ) → (suc n == 0) ≡ false
    neq_zero n = grind (arith, nat_tests)

pub ruleset emptiness = (empty_unchecked)

pub unchecked_next : (cs : List (Arc (Vec CodedCheck Global) Global)) (i : ℕ) (x : Arc (Vec CodedCheck Global) Global) → i < length cs → x ≡ get_or cs i x
    → are_unchecked (cases_from (check_lists (drop i cs))) ≡ (is_unchecked (checks_in x.value.items) && are_unchecked (cases_from (check_lists (drop (i + 1) cs))))
unchecked_next cs i x lt is = ap (λ xs. are_unchecked (cases_from xs)) (next_element (λ (c : Arc (Vec CodedCheck Global) Global). checks_in c.value.items) cs i x lt is)

pub unchecked_end : (cs : List (Arc (Vec CodedCheck Global) Global)) (i : ℕ) → length cs ≤ i → are_unchecked (cases_from (check_lists (drop i cs))) ≡ true
unchecked_end cs i past = ap (λ xs. are_unchecked (cases_from (check_lists xs))) (drop_past cs i past)

-- ---- how many there are

pub count_checks : (xs : List CodedCheck) → check_count (checks_in xs) ≡ length xs
count_checks [] = refl
count_checks (x ∷ xs) = ap suc (count_checks xs)

pub count_cases : (xs : List (Arc (Vec CodedCheck Global) Global)) → case_count (cases_from (check_lists xs)) ≡ length xs
count_cases [] = refl
count_cases (x ∷ xs) = ap suc (count_cases xs)

pub placed_few : (o : ℕ) (xs : List CodedCheck) → length xs ≤ FEW → placed_checks o (checks_in xs) ≡ moved_checks o (checks_in xs)
placed_few o xs few = rw (count_checks xs, le-ltb FEW (length xs) few) refl

pub placed_many : (o : ℕ) (xs : List CodedCheck) → FEW < length xs → placed_checks o (checks_in xs) ≡ one_check (part_check o (checks_in xs))
placed_many o xs many = rw (count_checks xs, lt-ltb FEW (length xs) many) refl

pub many_placed : (o : ℕ) (xs front : List CodedCheck) (c : CodedCheck) → FEW < length xs → check_of c ≡ part_check o (checks_in xs)
    → checks_in (front ++ c ∷ []) ≡ both_checks (checks_in front) (placed_checks o (checks_in xs))
many_placed o xs front c many is = pushed front c ∙ ap (λ d. both_checks (checks_in front) (one_check d)) is ∙ ap (λ ds. both_checks (checks_in front) ds) (sym (placed_many o xs many))

pub row_some : (d n : ℕ) (cs : Checks) → is_unchecked cs ≡ false → row_checks d n cs ≡ one_check (each_check 0 d n cs)
row_some d n cs some = rw some refl

pub row_none : (d n : ℕ) (cs : Checks) → is_unchecked cs ≡ true → row_checks d n cs ≡ no_checks
row_none d n cs none = rw none refl

pub cases_some : (b d : ℕ) (cs : CaseChecks) → are_unchecked cs ≡ false → cases_checks b d cs ≡ one_check (cases_check 0 b d cs)
cases_some b d cs some = rw some refl

pub cases_none : (b d : ℕ) (xs : List (Arc (Vec CodedCheck Global) Global)) → are_unchecked (cases_from (check_lists xs)) ≡ true → cases_checks b d (cases_from (check_lists xs)) ≡ one_check (below_check 0 b (length xs))
cases_none b d xs none = rw (none, count_cases xs) refl

pub ruleset listed = (placed_few, many_placed)
