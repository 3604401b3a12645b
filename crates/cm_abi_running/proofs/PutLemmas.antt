-- Puts in order, of a value that begins elsewhere, in a row, and in cases.
use Rattle.std.proofs.Common.{◌≡◌, ℕ, zero, suc, ◌+◌, ◌*◌, ◌/◌, ◌%◌, ◌^◌, ◌<◌, ◌==◌, not, List, [], ◌∷◌, ◌++◌, append_assoc, append-nil, refl, sym, ap, ◌∙◌, arith}
use Rattle.std.proofs.lemmas.Bool.{and_parts, eqb-true}
use Rattle.std.specs.Prelude.{Bool, true, false, nat_lt, if◌then◌else◌, slice_index}
use Rattle.cm_abi_model.specs.Numbers.{number_at}
use Rattle.cm_abi_model.specs.Stores.{Given, Placed, bytes_of, number_of, placed}
use Rattle.cm_abi_load.specs.Reading.{Source}
use Rattle.cm_abi_programs.specs.declared.limits.TheConstants.{FEW}
use Rattle.cm_abi_programs.specs.Puts.{Put, Puts, CasePuts, no_puts, put, no_cases, case, run_put, truth_put, flags_put, text_put, list_put, each_put, cases_put, handle_put, part_put}
use Rattle.cm_abi_programs.specs.Puts.{are_unwritten, cases_puts, is_bulk_of, is_unwritten, moved_put, one_put, put_count, put_then, row_puts, two_puts, with_moved, with_placed, with_put}
use Rattle.cm_abi_running.specs.Putting.{Written, all_written, case_written, copied, list_written, scalars_of_text, text_written, written, written_bytes, written_each, written_then}
use Rattle.cm_lemmas.proofs.Bools.{false_not_true}

-- ---- one behind the other

pub written_none : (a : Written) → written_then a (λ k h. written_bytes [] k h) ≡ a
written_none a = ap (λ bs. written_of bs) (append-nil a.bytes)
  where
    written_of : List Placed → Written
    written_of bs = record { bytes = bs; part = a.part; handle = a.handle }

pub written_twice : (a : Written) (f g : ℕ → ℕ → Written) → written_then (written_then a f) g ≡ written_then a (λ k h. written_then (f k h) g)
written_twice a f g = ap (λ bs. written_of bs) (append_assoc a.bytes (f a.part a.handle).bytes (g (f a.part a.handle).part (f a.part a.handle).handle).bytes)
  where
    written_of : List Placed → Written
    written_of bs =
        record {
          bytes = bs;
          part = (g (f a.part a.handle).part (f a.part a.handle).handle).part;
          handle = (g (f a.part a.handle).part (f a.part a.handle).handle).handle;
        }

pub written_same : (a : Written) (f g : ℕ → ℕ → Written) → ((k h : ℕ) → f k h ≡ g k h) → written_then a f ≡ written_then a g
written_same a f g same = ap (λ r. behind r) (same a.part a.handle)
  where
    behind : Written → Written
    behind r = record { bytes = a.bytes ++ r.bytes; part = r.part; handle = r.handle }

pub none_before : (n : ℕ) → 0 + n ≡ n
none_before n = omega arith

pub at_start : (p : ℕ) → p + 0 ≡ p
at_start p = omega arith

-- what is counted from a place that is moved twice, where it is read and where it is written
moved_twice : {A : Type 0} (F : ℕ → ℕ → A) (p q o at : ℕ) → F (p + (o + at)) (q + (o + at)) ≡ F (p + o + at) (q + o + at)
moved_twice F p q o at = ap (λ a. F a (q + (o + at))) {x = p + (o + at)} {y = p + o + at} (omega arith) ∙ ap (λ a. F (p + o + at) a) {x = q + (o + at)} {y = q + o + at} (omega arith)

pub not_moved : {A : Type 0} (F : ℕ → ℕ → A) (p q : ℕ) → F (p + 0) (q + 0) ≡ F p q
not_moved F p q = ap (λ a. F a (q + 0)) (at_start p) ∙ ap (λ a. F p a) (at_start q)

-- ---- bytes as they are

pub copied_both : (m : List ℕ) (a b p q : ℕ) → copied m (a + b) p q ≡ copied m a p q ++ copied m b (p + a) (q + a)
copied_both m zero b p q =
    ap (λ n. copied m n p q) (none_before b) ∙ sym (not_moved (λ x y. copied m b x y) p q)
copied_both m (suc a) b p q =
    ap (λ n. copied m n p q) {x = suc a + b} {y = suc (a + b)} (omega arith)
    ∙ ap (λ xs. (q, slice_index m p) ∷ xs) (copied_both m a b (p + 1) (q + 1))
    ∙ ap (λ xs. (q, slice_index m p) ∷ (copied m a (p + 1) (q + 1) ++ xs)) (moved_on (λ x y. copied m b x y))
  where
    moved_on : (F : ℕ → ℕ → List Placed) → F (p + 1 + a) (q + 1 + a) ≡ F (p + suc a) (q + suc a)
    moved_on F = ap (λ x. F x (q + 1 + a)) {x = p + 1 + a} {y = p + suc a} (omega arith) ∙ ap (λ y. F (p + suc a) y) {x = q + 1 + a} {y = q + suc a} (omega arith)

pub number_back : (m : List ℕ) → ((i : ℕ) → slice_index m i < 256) → (n p q : ℕ) → placed q (bytes_of n (number_at n m p)) ≡ copied m n p q
unfolding bytes_of number_at
number_back m small zero p q = refl
number_back m small (suc n) p q =
    let first = small p in
    let b = slice_index m p in
    let r = number_at n m (p + 1) in
    let low : (b + 256 * r) % 256 ≡ b = omega (arith, first) in
    let high : (b + 256 * r) / 256 ≡ r = omega (arith, first) in
    rw (low, high) (ap (λ xs. (q, b) ∷ xs) (number_back m small n (p + 1) (q + 1)))

module _ (w : Source) (g : Given) where
  pub one_written : (c : Put) (p q k h : ℕ) → all_written w g (one_put c) p q k h ≡ written w g c p q k h
  one_written c p q k h = written_none (written w g c p q k h)

  two_written : (c d : Put) (p q k h : ℕ) → all_written w g (two_puts c d) p q k h ≡ written_then (written w g c p q k h) (written w g d p q)
  two_written c d p q k h = written_same (written w g c p q k h) (all_written w g (one_put d) p q) (written w g d p q) (λ k h. one_written d p q k h)

  -- ---- a put behind others

  then_written : (c d : Put) (p q k h : ℕ) → all_written w g (put_then c d) p q k h ≡ written_then (written w g c p q k h) (written w g d p q)
  then_written (run_put at n) (run_put to m) p q k h = pick (at + n == to) refl
    where
      pick : (b : Bool) → (at + n == to) ≡ b
          → all_written w g (if b then one_put (run_put at (n + m)) else two_puts (run_put at n) (run_put to m)) p q k h
          ≡ written_then (written w g (run_put at n) p q k h) (written w g (run_put to m) p q)
      pick true e =
          let is : at + n ≡ to = eqb-true (at + n) to e in
          let from : p + at + n ≡ p + to = omega (arith, is) in
          let onto : q + at + n ≡ q + to = omega (arith, is) in
          one_written (run_put at (n + m)) p q k h
          ∙ ap (λ bs. written_bytes bs k h) (copied_both w.memory n m (p + at) (q + at))
          ∙ ap (λ x. written_bytes (copied w.memory n (p + at) (q + at) ++ copied w.memory m x (q + at + n)) k h) from
          ∙ ap (λ y. written_bytes (copied w.memory n (p + at) (q + at) ++ copied w.memory m (p + to) y) k h) onto
      pick false e = two_written (run_put at n) (run_put to m) p q k h
  then_written (run_put at n) d p q k h = two_written (run_put at n) d p q k h
  then_written c d p q k h = two_written c d p q k h

  pub with_written : (cs : Puts) (d : Put) (p q k h : ℕ) → all_written w g (with_put cs d) p q k h ≡ written_then (all_written w g cs p q k h) (written w g d p q)
  with_written no_puts d p q k h = one_written d p q k h
  with_written (put c no_puts) d p q k h =
      then_written c d p q k h ∙ ap (λ a. written_then a (written w g d p q)) (sym (written_none (written w g c p q k h)))
  with_written (put c (put e cs)) d p q k h =
      written_same (written w g c p q k h) (all_written w g (with_put (put e cs) d) p q)
      (λ k h. written_then (all_written w g (put e cs) p q k h) (written w g d p q)) (λ k h. with_written (put e cs) d p q k h)
      ∙ sym (written_twice (written w g c p q k h) (all_written w g (put e cs) p q) (written w g d p q))

  -- ---- elsewhere

  pub moved_written : (o : ℕ) (c : Put) (p q k h : ℕ) → written w g (moved_put o c) p q k h ≡ written w g c (p + o) (q + o) k h
  moved_written o (run_put at n) p q k h = moved_twice (λ x y. written_bytes (copied w.memory n x y) k h) p q o at
  moved_written o (truth_put at) p q k h = moved_twice (λ x y. written_bytes ((y, (if not (number_at 1 w.memory x == 0) then 1 else 0)) ∷ []) k h) p q o at
  moved_written o (flags_put at b n) p q k h = moved_twice (λ x y. written_bytes (placed y (bytes_of b (number_at b w.memory x % 2 ^ n))) k h) p q o at
  moved_written o (text_put at) p q k h =
      moved_twice (λ x y. text_written g (scalars_of_text w (number_at 4 w.memory x) (number_at 4 w.memory (x + 4))) y k h) p q o at
  moved_written o (list_put at d cs) p q k h =
      moved_twice (λ x y. list_written g (all_written w g cs) d (number_at 4 w.memory x) (number_at 4 w.memory (x + 4)) y k h) p q o at
  moved_written o (each_put at d n cs) p q k h = moved_twice (λ x y. written_each (all_written w g cs) d n x y k h) p q o at
  moved_written o (cases_put at b d cs) p q k h =
      moved_twice (λ x y. written_then (written_bytes (placed y (bytes_of b (number_at b w.memory x))) k h) (case_written w g cs (number_at b w.memory x) (x + d) (y + d))) p q o at
  moved_written o (handle_put at) p q k h = moved_twice (λ x y. handle_written y) p q o at
    where
      handle_written : ℕ → Written
      handle_written y = record { bytes = placed y (bytes_of 4 (number_of g h)); part = k; handle = h + 1 }
  moved_written o (part_put at cs) p q k h = moved_twice (λ x y. all_written w g cs x y k h) p q o at

  all_moved : (o : ℕ) (cs ds : Puts) (p q k h : ℕ)
      → all_written w g (with_moved o cs ds) p q k h ≡ written_then (all_written w g cs p q k h) (all_written w g ds (p + o) (q + o))
  all_moved o cs no_puts p q k h = sym (written_none (all_written w g cs p q k h))
  all_moved o cs (put d ds) p q k h =
      let here = all_written w g cs p q k h in
      all_moved o (with_put cs (moved_put o d)) ds p q k h
      ∙ ap (λ a. written_then a (all_written w g ds (p + o) (q + o))) (with_written cs (moved_put o d) p q k h)
      ∙ written_twice here (written w g (moved_put o d) p q) (all_written w g ds (p + o) (q + o))
      ∙ written_same here (λ k h. written_then (written w g (moved_put o d) p q k h) (all_written w g ds (p + o) (q + o))) (all_written w g (put d ds) (p + o) (q + o))
      (λ k h. ap (λ a. written_then a (all_written w g ds (p + o) (q + o))) (moved_written o d p q k h))

  pub placed_written : (o : ℕ) (cs ds : Puts) (p q k h : ℕ)
      → all_written w g (with_placed o cs ds) p q k h ≡ written_then (all_written w g cs p q k h) (all_written w g ds (p + o) (q + o))
  placed_written o cs ds p q k h = pick (nat_lt FEW (put_count ds))
    where
      pick : (b : Bool) → all_written w g (if b then with_put cs (part_put o ds) else with_moved o cs ds) p q k h
          ≡ written_then (all_written w g cs p q k h) (all_written w g ds (p + o) (q + o))
      pick true = with_written cs (part_put o ds) p q k h
      pick false = all_moved o cs ds p q k h

  -- ---- in a row

  bulk_is : (d : ℕ) (cs : Puts) → is_bulk_of d cs ≡ true → cs ≡ one_put (run_put 0 d)
  bulk_is d no_puts is = absurd (false_not_true is)
  bulk_is d (put (run_put at n) no_puts) is =
      let both = and_parts (at == 0) (n == d) is in
      ap (λ x. one_put (run_put x n)) (eqb-true at 0 both.0) ∙ ap (λ x. one_put (run_put 0 x)) (eqb-true n d both.1)
  bulk_is d (put _ no_puts) is = absurd (false_not_true is)
  bulk_is d (put c (put e cs)) is = absurd (false_not_true is)

  bulk_each : (d n p q k h : ℕ) → written_bytes (copied w.memory (n * d) p q) k h ≡ written_each (all_written w g (one_put (run_put 0 d))) d n p q k h
  bulk_each d zero p q k h = ap (λ x. written_bytes (copied w.memory x p q) k h) {x = 0 * d} {y = 0} (omega arith)
  bulk_each d (suc n) p q k h =
      ap (λ x. written_bytes (copied w.memory x p q) k h) {x = suc n * d} {y = d + n * d} (omega arith)
      ∙ ap (λ bs. written_bytes bs k h) (copied_both w.memory d (n * d) p q)
      ∙ ap (λ a. written_then (written_bytes (copied w.memory d p q) k h) a) (λ i k h. bulk_each d n (p + d) (q + d) k h i)
      ∙ ap (λ a. written_then a (written_each (all_written w g (one_put (run_put 0 d))) d n (p + d) (q + d)))
      (sym (one_written (run_put 0 d) p q k h ∙ not_moved (λ x y. written_bytes (copied w.memory d x y) k h) p q))

  pub row_written : (d n : ℕ) (cs : Puts) (p q k h : ℕ) → all_written w g (row_puts d n cs) p q k h ≡ written_each (all_written w g cs) d n p q k h
  row_written d n cs p q k h = pick (is_bulk_of d cs) refl
    where
      pick : (b : Bool) → is_bulk_of d cs ≡ b
          → all_written w g (if b then one_put (run_put 0 (n * d)) else one_put (each_put 0 d n cs)) p q k h ≡ written_each (all_written w g cs) d n p q k h
      pick true is =
          one_written (run_put 0 (n * d)) p q k h
          ∙ not_moved (λ x y. written_bytes (copied w.memory (n * d) x y) k h) p q
          ∙ bulk_each d n p q k h
          ∙ ap (λ ds. written_each (all_written w g ds) d n p q k h) (sym (bulk_is d cs is))
      pick false is = one_written (each_put 0 d n cs) p q k h ∙ not_moved (λ x y. written_each (all_written w g cs) d n x y k h) p q

  -- ---- in cases

  unwritten_none : (cs : Puts) (p q k h : ℕ) → is_unwritten cs ≡ true → written_bytes [] k h ≡ all_written w g cs p q k h
  unwritten_none no_puts p q k h is = refl
  unwritten_none (put c cs) p q k h is = absurd (false_not_true is)

  unwritten_cases : (cs : CasePuts) (i p q k h : ℕ) → are_unwritten cs ≡ true → written_bytes [] k h ≡ case_written w g cs i p q k h
  unwritten_cases no_cases i p q k h is = refl
  unwritten_cases (case cs rest) zero p q k h is = unwritten_none cs p q k h (and_parts _ _ is).0
  unwritten_cases (case cs rest) (suc i) p q k h is = unwritten_cases rest i p q k h (and_parts _ _ is).1

  pub cases_written : ((i : ℕ) → slice_index w.memory i < 256) → (b d : ℕ) (cs : CasePuts) (p q k h : ℕ)
      → all_written w g (cases_puts b d cs) p q k h
      ≡ written_then (written_bytes (placed q (bytes_of b (number_at b w.memory p))) k h) (case_written w g cs (number_at b w.memory p) (p + d) (q + d))
  cases_written small b d cs p q k h = pick (are_unwritten cs) refl
    where
      whole : Written
      whole = written_then (written_bytes (placed q (bytes_of b (number_at b w.memory p))) k h) (case_written w g cs (number_at b w.memory p) (p + d) (q + d))

      pick : (u : Bool) → are_unwritten cs ≡ u
          → all_written w g (if u then one_put (run_put 0 b) else one_put (cases_put 0 b d cs)) p q k h ≡ whole
      pick true none =
          one_written (run_put 0 b) p q k h
          ∙ not_moved (λ x y. written_bytes (copied w.memory b x y) k h) p q
          ∙ ap (λ bs. written_bytes bs k h) (sym (number_back w.memory small b p q))
          ∙ sym (written_none (written_bytes (placed q (bytes_of b (number_at b w.memory p))) k h))
          ∙ written_same (written_bytes (placed q (bytes_of b (number_at b w.memory p))) k h) (λ k h. written_bytes [] k h)
          (case_written w g cs (number_at b w.memory p) (p + d) (q + d)) (λ k h. unwritten_cases cs (number_at b w.memory p) (p + d) (q + d) k h none)
      pick false some =
          one_written (cases_put 0 b d cs) p q k h
          ∙ not_moved (λ x y. written_then (written_bytes (placed y (bytes_of b (number_at b w.memory x))) k h) (case_written w g cs (number_at b w.memory x) (x + d) (y + d))) p q
