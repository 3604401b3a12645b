-- Puts that are listed one after another.
use Rattle.std.proofs.Common.{◌≡◌, ℕ, zero, suc, ◌+◌, ◌<◌, ◌≤◌, List, [], ◌∷◌, ◌++◌, append_assoc, append-nil, drop, length, map, get_or, refl, sym, ap, ◌∙◌, arith}
use Rattle.std.proofs.lemmas.Bool.{le-ltb, lt-ltb}
use Rattle.std.proofs.lemmas.Bool.Decides.{nat_tests}
use Rattle.std.proofs.lemmas.List.{drop_more, map-append}
use Rattle.std.specs.Prelude.{true, false, ◌&&◌, ◌==◌, ◌*◌, Option, Some, None}
use Rattle.std.specs.declared.alloc.Global.{Global}
use Rattle.std.specs.declared.sync.Arc.{Arc}
use Rattle.std.specs.declared.vec.Vec.{Vec}
use Rattle.cm_layout.specs.Layouts.{nothings}
use Rattle.cm_layout.specs.Shapes.{LayoutTy, Parts, no_parts, part, payloads_from}
use Rattle.cm_abi_programs.specs.declared.limits.TheConstants.{FEW}
use Rattle.cm_abi_programs.specs.Puts.{Put, Puts, CasePuts, no_puts, put, case, run_put, each_put, cases_put, part_put}
use Rattle.cm_abi_programs.specs.Puts.{are_unwritten, cases_puts, field_puts, is_bulk_of, is_unwritten, moved_put, one_put, payload_puts, put_count, put_then, puts_of, row_puts, two_puts, with_moved, with_placed, with_put}
use Rattle.cm_abi_programs.specs.CodedPuts.{case_of, case_puts_from, put_lists, put_of, puts_from, puts_in}
use Rattle.cm_abi_programs.specs.declared.puts.CasePuts.{CasePuts as CodedCase}
use Rattle.cm_abi_programs.specs.declared.puts.Put.TheViews as view
use Rattle.cm_abi_programs.proofs.PutForms.{seen_case}
use Rattle.cm_abi_programs.specs.Held.{part_offsets, part_shapes}
use Rattle.cm_abi_programs.specs.PlacedFields.{puts_placed}
use Rattle.cm_abi_programs.specs.declared.puts.Put.{Put as CodedPut}
use Rattle.cm_abi_programs.proofs.ShapeLemmas.{carried_lists}
use Rattle.cm_lemmas.proofs.Lists.{drop_past, next_element}

-- ---- lists of puts

-- puts, and others behind them
abbrev both_puts : Puts → Puts → Puts
both_puts no_puts ds = ds
both_puts (put c cs) ds = put c (both_puts cs ds)

one_pushed : (xs : List CodedPut) (c : CodedPut) → puts_in (xs ++ c ∷ []) ≡ both_puts (puts_in xs) (one_put (put_of c))
one_pushed [] c = refl
one_pushed (x ∷ xs) c = ap (λ cs. put (put_of x) cs) (one_pushed xs c)

two_pushed : (xs : List CodedPut) (c d : CodedPut) → puts_in ((xs ++ c ∷ []) ++ d ∷ []) ≡ both_puts (puts_in xs) (two_puts (put_of c) (put_of d))
two_pushed [] c d = refl
two_pushed (x ∷ xs) c d = ap (λ cs. put (put_of x) cs) (two_pushed xs c d)

with_last : (xs : List CodedPut) (c : CodedPut) (d : Put) → with_put (puts_in (xs ++ c ∷ [])) d ≡ both_puts (puts_in xs) (put_then (put_of c) d)
with_last [] c d = refl
with_last (x ∷ []) c d = refl
with_last (x ∷ y ∷ xs) c d = ap (λ cs. put (put_of x) cs) (with_last (y ∷ xs) c d)

-- ---- a put behind others

pub first_put : (xs : List CodedPut) (d : CodedPut) → xs ≡ [] → puts_in (xs ++ d ∷ []) ≡ with_put (puts_in xs) (put_of d)
first_put xs d none = rw none refl

pub apart : (all xs : List CodedPut) (c d : CodedPut) → all ≡ xs ++ c ∷ [] → put_then (put_of c) (put_of d) ≡ two_puts (put_of c) (put_of d)
    → puts_in ((xs ++ c ∷ []) ++ d ∷ []) ≡ with_put (puts_in all) (put_of d)
apart all xs c d is two = two_pushed xs c d ∙ (ap (λ cs. both_puts (puts_in xs) cs) (sym two) ∙ (sym (with_last xs c (put_of d)) ∙ ap (λ ys. with_put (puts_in ys) (put_of d)) (sym is)))

pub together : (all xs : List CodedPut) (c d e : CodedPut) → all ≡ xs ++ c ∷ [] → put_then (put_of c) (put_of d) ≡ one_put (put_of e)
    → puts_in (xs ++ e ∷ []) ≡ with_put (puts_in all) (put_of d)
together all xs c d e is one = one_pushed xs e ∙ (ap (λ cs. both_puts (puts_in xs) cs) (sym one) ∙ (sym (with_last xs c (put_of d)) ∙ ap (λ ys. with_put (puts_in ys) (put_of d)) (sym is)))

pub ruleset joining = (first_put, apart, together)

-- ---- puts of a value that begins elsewhere

pub moved_next : (cs : List CodedPut) (i by : ℕ) (x y : CodedPut) (front all : List CodedPut) → i < length cs → x ≡ get_or cs i x
    → put_of y ≡ moved_put by (put_of x) → puts_in all ≡ with_put (puts_in front) (put_of y)
    → with_moved by (puts_in all) (puts_in (drop (i + 1) cs)) ≡ with_moved by (puts_in front) (puts_in (drop i cs))
moved_next cs i by x y front all lt is moved grown =
    ap (λ xs. with_moved by xs (puts_in (drop (i + 1) cs))) grown
    ∙ ap (λ d. with_moved by (with_put (puts_in front) d) (puts_in (drop (i + 1) cs))) moved
    ∙ ap (λ xs. with_moved by (puts_in front) (puts_from xs)) (sym (next_element put_of cs i x lt is))

pub moved_end : (cs : List CodedPut) (i by : ℕ) (front : Puts) → length cs ≤ i → front ≡ with_moved by front (puts_in (drop i cs))
moved_end cs i by front past = ap (λ xs. with_moved by front (puts_in xs)) (sym (drop_past cs i past))

-- ---- fields

pub placed_next : (os : List ℕ) (cs : List (Arc (Vec CodedPut Global) Global)) (i o : ℕ) (c : Arc (Vec CodedPut Global) Global) (front all : Puts)
    → i < length os → i < length cs → o ≡ get_or os i 0 → c ≡ get_or cs i c
    → all ≡ with_placed o front (puts_in c.value.items)
    → puts_placed (drop (i + 1) os) (put_lists (drop (i + 1) cs)) all ≡ puts_placed (drop i os) (put_lists (drop i cs)) front
placed_next os cs i o c front all within held place list grown =
    ap (λ xs. puts_placed (drop (i + 1) os) (put_lists (drop (i + 1) cs)) xs) grown
    ∙ ap (λ xs. puts_placed (o ∷ drop (i + 1) os) xs front) (sym (next_element (λ (l : Arc (Vec CodedPut Global) Global). puts_in l.value.items) cs i c held list))
    ∙ ap (λ qs. puts_placed qs (put_lists (drop i cs)) front) (sym (drop_more os i 0 within ∙ ap (λ q. q ∷ drop (i + 1) os) (sym place)))

pub placed_end : (os : List ℕ) (cs : List Puts) (i : ℕ) (front : Puts) → length os ≤ i → front ≡ puts_placed (drop i os) cs front
placed_end os cs i front past = ap (λ qs. puts_placed qs cs front) (sym (drop_past os i past))

pub fields_placed : (ps : Parts) (front : Puts) → puts_placed (part_offsets ps) (map puts_of (part_shapes ps)) front ≡ field_puts ps front
fields_placed no_parts front = refl
fields_placed (part o e x ps) front = fields_placed ps (with_placed o front (puts_of x))

-- ---- what cases carry

pub case_next : (cs : List (Arc (Vec CodedPut Global) Global)) (i : ℕ) (x y : Arc (Vec CodedPut Global) Global) (front all : List CodedCase) → i < length cs → x ≡ get_or cs i x → y.value ≡ x.value
    → all ≡ front ++ view.roll-CasePuts (record { puts = y }) ∷ [] → map case_of all ++ put_lists (drop (i + 1) cs) ≡ map case_of front ++ put_lists (drop i cs)
case_next cs i x y front all lt is copy grown =
    let rest = put_lists (drop (i + 1) cs) in
    ap (λ xs. map case_of xs ++ rest) grown
    ∙ ap (λ xs. xs ++ rest) (map-append case_of front (view.roll-CasePuts (record { puts = y }) ∷ []))
    ∙ append_assoc (map case_of front) (case_of (view.roll-CasePuts (record { puts = y })) ∷ []) rest
    ∙ ap (λ d. map case_of front ++ d ∷ rest) (seen_case y ∙ ap (λ (v : Vec CodedPut Global). puts_in v.items) copy)
    ∙ ap (λ ls. map case_of front ++ ls) (sym (next_element (λ (l : Arc (Vec CodedPut Global) Global). puts_in l.value.items) cs i x lt is))

pub case_end : (cs : List (Arc (Vec CodedPut Global) Global)) (i : ℕ) (front : List CodedCase) → length cs ≤ i → map case_of front ≡ map case_of front ++ put_lists (drop i cs)
case_end cs i front past = sym (append-nil (map case_of front)) ∙ ap (λ xs. map case_of front ++ put_lists xs) (sym (drop_past cs i past))

pub cases_carried : (ps : List (Option LayoutTy)) → case_puts_from (carried_lists puts_in puts_of ps) ≡ payload_puts (payloads_from ps)
cases_carried [] = refl
cases_carried (None ∷ ps) = ap (λ cs. case no_puts cs) (cases_carried ps)
cases_carried (Some l ∷ ps) = ap (λ cs. case (puts_of l.shape) cs) (cases_carried ps)

unwritten_nothings : (n : ℕ) → are_unwritten (payload_puts (nothings n)) ≡ true
unwritten_nothings zero = refl
unwritten_nothings (suc n) = unwritten_nothings n

pub enum_puts : (b n : ℕ) → one_put (run_put 0 b) ≡ cases_puts b b (payload_puts (nothings n))
enum_puts b n = rw (unwritten_nothings n) refl

-- ---- what is empty

pub empty_unwritten : (xs : List CodedPut) → (length xs == 0) ≡ is_unwritten (puts_in xs)
empty_unwritten [] = refl
empty_unwritten (x ∷ xs) = neq_zero (length xs)
  where
    neq_zero : (n : ℕ) → (suc n == 0) ≡ false
    neq_zero n = grind (arith, nat_tests)

pub ruleset emptiness = (empty_unwritten)

pub unwritten_next : (cs : List (Arc (Vec CodedPut Global) Global)) (i : ℕ) (x : Arc (Vec CodedPut Global) Global) → i < length cs → x ≡ get_or cs i x
    → are_unwritten (case_puts_from (put_lists (drop i cs))) ≡ (is_unwritten (puts_in x.value.items) && are_unwritten (case_puts_from (put_lists (drop (i + 1) cs))))
unwritten_next cs i x lt is = ap (λ xs. are_unwritten (case_puts_from xs)) (next_element (λ (c : Arc (Vec CodedPut Global) Global). puts_in c.value.items) cs i x lt is)

pub unwritten_end : (cs : List (Arc (Vec CodedPut Global) Global)) (i : ℕ) → length cs ≤ i → are_unwritten (case_puts_from (put_lists (drop i cs))) ≡ true
unwritten_end cs i past = ap (λ xs. are_unwritten (case_puts_from (put_lists xs))) (drop_past cs i past)

-- ---- how many there are

count_puts : (xs : List CodedPut) → put_count (puts_in xs) ≡ length xs
count_puts [] = refl
count_puts (x ∷ xs) = ap suc (count_puts xs)

pub placed_few : (o : ℕ) (cs : Puts) (xs : List CodedPut) → length xs ≤ FEW → with_placed o cs (puts_in xs) ≡ with_moved o cs (puts_in xs)
placed_few o cs xs few = rw (count_puts xs, le-ltb FEW (length xs) few) refl

pub placed_many : (o : ℕ) (cs : Puts) (xs : List CodedPut) → FEW < length xs → with_placed o cs (puts_in xs) ≡ with_put cs (part_put o (puts_in xs))
placed_many o cs xs many = rw (count_puts xs, lt-ltb FEW (length xs) many) refl

pub row_bulk : (d n : ℕ) (cs : Puts) → is_bulk_of d cs ≡ true → row_puts d n cs ≡ one_put (run_put 0 (n * d))
row_bulk d n cs bulk = rw bulk refl

pub row_each : (d n : ℕ) (cs : Puts) → is_bulk_of d cs ≡ false → row_puts d n cs ≡ one_put (each_put 0 d n cs)
row_each d n cs each = rw each refl

pub cases_some : (b d : ℕ) (cs : CasePuts) → are_unwritten cs ≡ false → cases_puts b d cs ≡ one_put (cases_put 0 b d cs)
cases_some b d cs some = rw some refl

pub cases_none : (b d : ℕ) (cs : CasePuts) → are_unwritten cs ≡ true → cases_puts b d cs ≡ one_put (run_put 0 b)
cases_none b d cs none = rw none refl

pub not_one : (d : ℕ) (xs : List CodedPut) → (length xs ≡ 1 → ⊥) → false ≡ is_bulk_of d (puts_in xs)
not_one d [] other = refl
not_one d (x ∷ []) other = absurd (other refl)
not_one d (x ∷ y ∷ xs) other = refl

pub ruleset listed = (placed_few, placed_many)
