-- Puts, run one after another.
use Rattle.std.proofs.Common.{◌≡◌, ℕ, zero, suc, ◌+◌, ◌*◌, ◌-◌, ◌<◌, ◌≤◌, ◌==◌, List, [], ◌∷◌, ◌++◌, length, take, drop, drop-cons, add-one, map, get_or, Vec, Global, refl, sym, ap, subst, ◌∙◌, arith, append-nil}
use Rattle.std.proofs.lemmas.Bool.{and_parts, eqb-true}
use Rattle.std.proofs.lemmas.Bool.Decides.{nat_tests}
use Rattle.std.proofs.lemmas.Nat.{mul-le}
use Rattle.std.specs.Prelude.{false, true, slice_index, Option, Some, None}
use Rattle.std.specs.declared.sync.Arc.{Arc}
use Rattle.cm_abi_model.specs.Numbers.{number_at}
use Rattle.cm_abi_model.specs.Requests.{text_bytes, text_units}
use Rattle.cm_abi_model.specs.Stores.{bytes_of, place_of, placed, pointer_bytes, poke}
use Rattle.cm_abi_model.specs.Texts.{bytes_from, charset_of, text_size}
use Rattle.cm_abi_load.specs.Decoded.{decoded}
use Rattle.cm_abi_programs.specs.CodedPuts.{case_of, case_puts_from, put_of, puts_in}
use Rattle.cm_abi_programs.specs.Puts.{Put, Puts, CasePuts, no_puts, put, one_put, run_put, truth_put, flags_put, text_put, list_put, each_put, cases_put, handle_put, part_put, is_bulk_of}
use Rattle.cm_abi_programs.specs.declared.puts.CasePuts.{CasePuts as CodedCase, out-CasePuts}
use Rattle.cm_abi_programs.specs.declared.puts.Put.{Put as CodedPut}
use Rattle.cm_abi_programs.specs.declared.puts.Put.TheViews as view
use Rattle.cm_abi_programs.proofs.PutForms.{case_is, seen_Cases, seen_Each, seen_List}
use Rattle.cm_abi_running.specs.Putting.{Written, case_written, copied, scalars_of_text, written_bytes, written_each, written_then, or_no_scalars as written_scalars}
use Rattle.cm_abi_store.specs.WalkLaws.{poke_both}
use Rattle.cm_abi_store.specs.declared.target.Next.{Next}
use Rattle.cm_abi_running.specs.Copying.{Copying}
use Rattle.cm_abi_running.specs.PutsReady.{AreEachPutReady, ArePutsReady, IsCasePutReady, IsListPutReady, IsPutReady, seen_from}
use Rattle.cm_abi_running.specs.PutsWithin.{AreCasePutsWithin, ArePutsWithin, IsPutWithin}
use Rattle.cm_abi_running.specs.PutsWritten.{LieBetween, LiesBetween, Writes, running, running_list, running_one, running_text}
use Rattle.cm_abi_running.specs.Shown.{or_no_scalars, scalars_at}
use Rattle.cm_lemmas.proofs.Bools.{false_not_true}

-- ---- bytes as they are

pub copied_slice : (m : List ℕ) (n p q : ℕ) → p + n ≤ length m → placed q (take n (drop p m)) ≡ copied m n p q
copied_slice m zero p q inside = refl
copied_slice m (suc n) p q inside =
    rw (take_more m p (omega (arith, inside))) (ap (λ xs. (q, slice_index m p) ∷ xs) (copied_slice m n (p + 1) (q + 1) (omega (arith, inside))))
  where
    take_more : (xs : List ℕ) (p : ℕ) → p < length xs → take (suc n) (drop p xs) ≡ slice_index xs p ∷ take n (drop (p + 1) xs)
    take_more [] p lt = absurd (omega (arith, lt))
    take_more (x ∷ xs) zero lt = refl
    take_more (x ∷ xs) (suc p) lt =
        let next : suc p + 1 ≡ suc (p + 1) = omega arith in
        rw next (take_more xs p (omega (arith, lt)))

pub many_puts : (d : ℕ) (cs : List CodedPut) → 2 ≤ length cs → false ≡ is_bulk_of d (puts_in cs)
many_puts d [] le = absurd (omega (arith, le))
many_puts d (x ∷ []) le = absurd (omega (arith, le))
many_puts d (x ∷ y ∷ cs) le = refl

-- ---- a string

same_scalars : (o : Option (List ℕ)) → written_scalars o ≡ or_no_scalars o
same_scalars None = refl
same_scalars (Some cs) = refl

pub text_same : (c : Copying) (at n : ℕ) → scalars_of_text (seen_from c) at n ≡ scalars_at c.memory c.encoding at n
text_same c at n = same_scalars (decoded (charset_of c.encoding n) (bytes_from c.memory at (text_size c.encoding n)))

pub text_writes : (c : Copying) (p q k h : ℕ) (after : Next) (m0 m1 m2 : List ℕ) (size units place pointer tagged : ℕ)
    → pointer ≡ number_at 4 c.memory p → tagged ≡ number_at 4 c.memory (p + 4)
    → size ≡ slice_index c.sizes k
    → slice_index c.sizes k ≡ length (text_bytes c.given.charset (scalars_at c.memory c.encoding (number_at 4 c.memory p) (number_at 4 c.memory (p + 4))))
    → ((cs : List ℕ) → size ≡ length (text_bytes c.given.charset cs) → units ≡ text_units c.given.charset cs)
    → place ≡ place_of c.given k
    → m1 ≡ poke (pointer_bytes q (place_of c.given k) units) m0
    → m2 ≡ poke (placed place (text_bytes c.given.charset (scalars_at c.memory c.encoding pointer tagged))) m1
    → length m1 ≡ length m0 → length m2 ≡ length m1 → after.part ≡ k + 1 → after.handle ≡ h
    → Writes (running_text c p q k h) after m0 m2
text_writes c p q k h after m0 m1 m2 size units place pointer tagged pointer_is tagged_is size_is known units_are place_is first second stays_1 stays_2 part handle =
    record {
      stored = second
          ∙ ap (λ x. poke (placed place (T (S x tagged))) m1) pointer_is
          ∙ ap (λ y. poke (placed place (T (S P y))) m1) tagged_is
          ∙ ap (λ at. poke (placed at (T (S P N))) m1) place_is
          ∙ ap (λ m. poke (placed G (T (S P N))) m) first
          ∙ ap (λ n. poke (placed G (T (S P N))) (poke (pointer_bytes q G n) m0)) (units_are (S P N) (size_is ∙ known))
          ∙ sym (poke_both (pointer_bytes q G (text_units c.given.charset (S P N))) (placed G (T (S P N))) m0)
          ∙ ap (λ cs. poke (pointer_bytes q G (text_units c.given.charset cs) ++ placed G (T cs)) m0) (sym (text_same c P N));
      stays = stays_2 ∙ stays_1;
      part = part;
      handle = handle;
    }
  where
    G : ℕ
    G = place_of c.given k

    P : ℕ
    P = number_at 4 c.memory p

    N : ℕ
    N = number_at 4 c.memory (p + 4)

    T : List ℕ → List ℕ
    T cs = text_bytes c.given.charset cs

    S : ℕ → ℕ → List ℕ
    S at n = scalars_at c.memory c.encoding at n

-- ---- one behind the other

-- what is still to be written of all that is, where so far this memory became that one
pub record StillWrites (rest total : Written) (old now : List ℕ) : Type 0 where
  pub bytes : poke rest.bytes now ≡ poke total.bytes old
  pub stays : length now ≡ length old
  pub part : rest.part ≡ total.part
  pub handle : rest.handle ≡ total.handle

all_left : (a : Written) (m : List ℕ) → StillWrites a a m m
all_left a m = record { bytes = refl; stays = refl; part = refl; handle = refl }

module _ (a : Written) (f : ℕ → ℕ → Written) (after : Next) (now new : List ℕ) (w : Writes a after now new) where
  then_same : {A : Type 0} (F : Written → A) → F (f after.part after.handle) ≡ F (f a.part a.handle)
  then_same F = ap (λ j. F (f j after.handle)) w.part ∙ ap (λ j. F (f a.part j)) w.handle

  then_bytes : poke (f after.part after.handle).bytes new ≡ poke (written_then a f).bytes now
  then_bytes =
      then_same (λ r. poke r.bytes new)
      ∙ ap (λ m. poke (f a.part a.handle).bytes m) w.stored
      ∙ sym (poke_both a.bytes (f a.part a.handle).bytes now)

  one_less : (total : Written) (old : List ℕ) → StillWrites (written_then a f) total old now → StillWrites (f after.part after.handle) total old new
  one_less total old left =
      record {
        bytes = then_bytes ∙ left.bytes;
        stays = w.stays ∙ left.stays;
        part = then_same (λ r. r.part) ∙ left.part;
        handle = then_same (λ r. r.handle) ∙ left.handle;
      }

  pub both_write : (last : Next) (end : List ℕ) → Writes (f after.part after.handle) last new end → Writes (written_then a f) last now end
  both_write last end x =
      record {
        stored = x.stored ∙ then_bytes;
        stays = x.stays ∙ w.stays;
        part = x.part ∙ then_same (λ r. r.part);
        handle = x.handle ∙ then_same (λ r. r.handle);
      }

none_left : (total : Written) (after : Next) (old now : List ℕ) → StillWrites (written_bytes [] after.part after.handle) total old now → Writes total after old now
none_left total after old now left = record { stored = left.bytes; stays = left.stays; part = left.part; handle = left.handle }

-- ---- puts in order

-- these puts are still to be run
pub record PutsLeft (c : Copying) (cs : List CodedPut) (p q : ℕ) (total : Written) (next : Next) (old now : List ℕ) : Type 0 where
  pub ready : ArePutsReady (length old) c (puts_in cs) p q next.part next.handle
  pub left : StillWrites (running c (puts_in cs) p q next.part next.handle) total old now

pub puts_start : (c : Copying) (cs : List CodedPut) (p q : ℕ) (next : Next) (m : List ℕ) → ArePutsReady (length m) c (puts_in cs) p q next.part next.handle
    → PutsLeft c cs p q (running c (puts_in cs) p q next.part next.handle) next m m
puts_start c cs p q next m ready = record { ready = ready; left = all_left _ m }

split : (cs : List CodedPut) (i : ℕ) (x : CodedPut) → i < length cs → x ≡ get_or cs i x → drop i cs ≡ x ∷ drop (i + 1) cs
split cs i x lt is = rw (add-one, drop-cons cs i x lt, ← is) refl

module _ (c : Copying) (cs : List CodedPut) (i p q : ℕ) (x : CodedPut) (total : Written) (next : Next) (old now : List ℕ) (lt : i < length cs) (is : x ≡ get_or cs i x) where
  one_left : PutsLeft c (drop i cs) p q total next old now → PutsLeft c (x ∷ drop (i + 1) cs) p q total next old now
  one_left = subst (λ ys. PutsLeft c ys p q total next old now) (split cs i x lt is)

  pub one_ready : PutsLeft c (drop i cs) p q total next old now → IsPutReady (length now) c (put_of x) p q next.part next.handle
  one_ready all =
      let l = one_left all in
      subst (λ n. IsPutReady n c (put_of x) p q next.part next.handle) (sym l.left.stays) l.ready.0

  pub puts_turn : PutsLeft c (drop i cs) p q total next old now → (after : Next) (new : List ℕ) → Writes (running_one c (put_of x) p q next.part next.handle) after now new
      → PutsLeft c (drop (i + 1) cs) p q total after old new
  puts_turn all after new w =
      let l = one_left all in
      let a = running_one c (put_of x) p q next.part next.handle in
      record {
        ready = subst (λ j. ArePutsReady (length old) c (puts_in (drop (i + 1) cs)) p q after.part j) (sym w.handle)
            (subst (λ j. ArePutsReady (length old) c (puts_in (drop (i + 1) cs)) p q j a.handle) (sym w.part) l.ready.1);
        left = one_less a (running c (puts_in (drop (i + 1) cs)) p q) after now new w total old l.left;
      }

pub puts_end : (c : Copying) (cs : List CodedPut) (i p q : ℕ) (total : Written) (next : Next) (old now : List ℕ) → length cs ≤ i → PutsLeft c (drop i cs) p q total next old now → Writes total next old now
puts_end c cs i p q total next old now past all =
    let l : PutsLeft c [] p q total next old now = subst (λ ys. PutsLeft c ys p q total next old now) (drop-past cs i past) all in
    none_left total next old now l.left
  where
    drop-past : (xs : List CodedPut) (i : ℕ) → length xs ≤ i → drop i xs ≡ []
    drop-past [] zero past = refl
    drop-past [] (suc i) past = refl
    drop-past (x ∷ xs) zero past = absurd (omega (arith, past))
    drop-past (x ∷ xs) (suc i) past = drop-past xs i (omega (arith, past))

-- one of the puts lies where all do
pub one_lies : (cs : List CodedPut) (p source q memory i : ℕ) (x : CodedPut) → i < length cs → x ≡ get_or cs i x → LieBetween (puts_in cs) p source q memory
    → (n : ℕ) → n ≡ memory → LiesBetween (put_of x) p source q n
one_lies cs p source q memory i x lt is lie n same = record { size = lie.size; within = go cs i lt is lie.within; read = lie.read; room = rw same lie.room }
  where
    go : (cs : List CodedPut) (i : ℕ) → i < length cs → x ≡ get_or cs i x → ArePutsWithin lie.size (puts_in cs) → IsPutWithin lie.size (put_of x)
    go [] i lt is h = absurd (omega (arith, lt))
    go (y ∷ cs) zero lt is h = subst (λ r. IsPutWithin lie.size (put_of r)) (sym is) h.0
    go (y ∷ cs) (suc i) lt is h = go cs i (omega (arith, lt)) is h.1

-- ---- values in a row

-- so many values are still to be copied
pub record RowLeft (c : Copying) (cs : Puts) (d n p q : ℕ) (total : Written) (next : Next) (old now : List ℕ) : Type 0 where
  pub ready : AreEachPutReady (ArePutsReady (length old) c cs) (running c cs) d n p q next.part next.handle
  pub left : StillWrites (written_each (running c cs) d n p q next.part next.handle) total old now

module _ (c : Copying) (cs : Puts) (d n : ℕ) where
  pub row_start : (p q : ℕ) (next : Next) (m : List ℕ) → AreEachPutReady (ArePutsReady (length m) c cs) (running c cs) d n p q next.part next.handle
      → RowLeft c cs d (n - 0) p q (written_each (running c cs) d n p q next.part next.handle) next m m
  row_start p q next m ready =
      subst (λ j. RowLeft c cs d j p q (written_each (running c cs) d n p q next.part next.handle) next m m) {x = n} {y = n - 0} (omega arith)
      (record { ready = ready; left = all_left _ m })

  module _ (i p q : ℕ) (total : Written) (next : Next) (old now : List ℕ) where
    next_left : i < n → RowLeft c cs d (n - i) p q total next old now → RowLeft c cs d (suc (n - (i + 1))) p q total next old now
    next_left lt = subst (λ j. RowLeft c cs d j p q total next old now) {x = n - i} {y = suc (n - (i + 1))} (omega (arith, lt))

    pub next_ready : i < n → RowLeft c cs d (n - i) p q total next old now → ArePutsReady (length now) c cs p q next.part next.handle
    next_ready lt all =
        let l = next_left lt all in
        subst (λ m. ArePutsReady m c cs p q next.part next.handle) (sym l.left.stays) l.ready.0

    pub row_turn : i < n → RowLeft c cs d (n - i) p q total next old now → (after : Next) (new : List ℕ) → Writes (running c cs p q next.part next.handle) after now new
        → RowLeft c cs d (n - (i + 1)) (p + d) (q + d) total after old new
    row_turn lt all after new w =
        let l = next_left lt all in
        let a = running c cs p q next.part next.handle in
        let R = λ (j k : ℕ). AreEachPutReady (ArePutsReady (length old) c cs) (running c cs) d (n - (i + 1)) (p + d) (q + d) j k in
        record {
          ready = subst (λ k. R after.part k) (sym w.handle) (subst (λ j. R j a.handle) (sym w.part) l.ready.1);
          left = one_less a (written_each (running c cs) d (n - (i + 1)) (p + d) (q + d)) after now new w total old l.left;
        }

    pub row_end : n ≤ i → RowLeft c cs d (n - i) p q total next old now → Writes total next old now
    row_end past all =
        let l = subst (λ j. RowLeft c cs d j p q total next old now) {x = n - i} {y = 0} (omega (arith, past)) all in
        none_left total next old now l.left

-- each of the values lies where all do
pub row_room : (p len d n i q : ℕ) → p + n * d ≤ len → i < n → q ≡ p + i * d → q + d ≤ len
row_room p len d n i q room lt is = omega (arith, mul-le (i + 1) d n d (omega (arith, lt)) (omega arith), add_row i d, room, is)
  where
    add_row : (i d : ℕ) → (i + 1) * d ≡ i * d + d
    add_row i d = grind arith

pub next_row : (q p i d : ℕ) → q ≡ p + i * d → q + d ≡ p + (i + 1) * d
next_row q p i d is = rw is (grind arith)

-- a string alone is one put with nothing behind it
pub only_text_writes : (c : Copying) (at p q k h : ℕ) (after : Next) (old new : List ℕ) → Writes (running_text c (p + at) (q + at) k h) after old new
    → Writes (running c (one_put (text_put at)) p q k h) after old new
only_text_writes c at p q k h after old new w =
    record {
      stored = w.stored ∙ ap (λ bs. poke bs old) (sym (append-nil (running_text c (p + at) (q + at) k h).bytes));
      stays = w.stays;
      part = w.part;
      handle = w.handle;
    }

-- a row of values of which nothing is written
pub empty_row : (c : Copying) (cs : List CodedPut) (d n p q : ℕ) (next : Next) (m : List ℕ) → (length cs == 0) ≡ true
    → Writes (written_each (running c (puts_in cs)) d n p q next.part next.handle) next m m
empty_row c [] d n p q next m none = rw (none_row n p q) (record { stored = refl; stays = refl; part = refl; handle = refl })
  where
    none_row : (n p q : ℕ) → written_each (running c no_puts) d n p q next.part next.handle ≡ written_bytes [] next.part next.handle
    none_row zero p q = refl
    none_row (suc n) p q = none_row n (p + d) (q + d)
empty_row c (x ∷ cs) d n p q next m none = absurd (some (length cs) none)
  where
    some : (m : ℕ) → (suc m == 0) ≡ true → ⊥
    some m is = grind (arith, nat_tests, is)

-- ---- a row of bytes that are written as they are

pub copied_both : (m : List ℕ) (a b p q : ℕ) → copied m (a + b) p q ≡ copied m a p q ++ copied m b (p + a) (q + a)
copied_both m zero b p q =
    let from : p + 0 ≡ p = omega arith in
    let onto : q + 0 ≡ q = omega arith in
    let all : 0 + b ≡ b = omega arith in
    rw (from, onto, all) refl
copied_both m (suc a) b p q =
    let from : p + suc a ≡ p + 1 + a = omega arith in
    let onto : q + suc a ≡ q + 1 + a = omega arith in
    let all : suc a + b ≡ suc (a + b) = omega arith in
    rw (from, onto, all) (ap (λ xs. (q, slice_index m p) ∷ xs) (copied_both m a b (p + 1) (q + 1)))

module _ (c : Copying) (d : ℕ) where
  abbrev bulk : Puts
  bulk = one_put (run_put 0 d)

  one_bulk : (p q k h : ℕ) → running c bulk p q k h ≡ written_bytes (copied c.memory d p q) k h
  one_bulk p q k h =
      let from : p + 0 ≡ p = omega arith in
      let onto : q + 0 ≡ q = omega arith in
      ap (λ bs. written_bytes bs k h) (append-nil (copied c.memory d (p + 0) (q + 0))) ∙ rw (from, onto) refl

  all_bulk : (n p q k h : ℕ) → written_each (running c bulk) d n p q k h ≡ written_bytes (copied c.memory (n * d) p q) k h
  all_bulk zero p q k h = let none : 0 * d ≡ 0 = omega arith in rw none refl
  all_bulk (suc n) p q k h =
      let sum : suc n * d ≡ d + n * d = omega arith in
      ap (λ a. written_then a (written_each (running c bulk) d n (p + d) (q + d))) (one_bulk p q k h)
      ∙ ap (λ r. written_then (written_bytes (copied c.memory d p q) k h) (λ j l. r)) (all_bulk n (p + d) (q + d) k h)
      ∙ rw sum (ap (λ bs. written_bytes bs k h) (sym (copied_both c.memory d (n * d) p q)))

is_bulk_so : (d : ℕ) (cs : Puts) → is_bulk_of d cs ≡ true → cs ≡ one_put (run_put 0 d)
is_bulk_so d no_puts is = absurd (false_not_true is)
is_bulk_so d (put (run_put at n) no_puts) is =
    let parts = and_parts (at == 0) (n == d) is in
    ap (λ x. one_put (run_put x n)) (eqb-true at 0 parts.0) ∙ ap (λ y. one_put (run_put 0 y)) (eqb-true n d parts.1)
is_bulk_so d (put (truth_put at) no_puts) is = absurd (false_not_true is)
is_bulk_so d (put (flags_put at b l) no_puts) is = absurd (false_not_true is)
is_bulk_so d (put (text_put at) no_puts) is = absurd (false_not_true is)
is_bulk_so d (put (list_put at e cs) no_puts) is = absurd (false_not_true is)
is_bulk_so d (put (each_put at e n cs) no_puts) is = absurd (false_not_true is)
is_bulk_so d (put (cases_put at b e cs) no_puts) is = absurd (false_not_true is)
is_bulk_so d (put (handle_put at) no_puts) is = absurd (false_not_true is)
is_bulk_so d (put (part_put at cs) no_puts) is = absurd (false_not_true is)
is_bulk_so d (put c (put e cs)) is = absurd (false_not_true is)

pub bulk_row : (c : Copying) (cs : Puts) (d n p q : ℕ) (next : Next) (old new : List ℕ) → is_bulk_of d cs ≡ true → new ≡ poke (copied c.memory (n * d) p q) old → length new ≡ length old
    → Writes (written_each (running c cs) d n p q next.part next.handle) next old new
bulk_row c cs d n p q next old new is stored stays =
    subst (λ a. Writes a next old new)
    (sym (ap (λ xs. written_each (running c xs) d n p q next.part next.handle) (is_bulk_so d cs is) ∙ all_bulk c d n p q next.part next.handle))
    (record { stored = stored; stays = stays; part = refl; handle = refl })

-- ---- a list

pub list_writes : (c : Copying) (cs : Puts) (d p q k h : ℕ) (mid after : Next) (m0 m1 m2 : List ℕ) (pointer count place : ℕ)
    → pointer ≡ number_at 4 c.memory p → count ≡ number_at 4 c.memory (p + 4) → place ≡ place_of c.given k
    → m1 ≡ poke (pointer_bytes q (place_of c.given k) count) m0 → length m1 ≡ length m0 → mid.part ≡ k + 1 → mid.handle ≡ h
    → Writes (written_each (running c cs) d count pointer place mid.part mid.handle) after m1 m2
    → Writes (running_list c cs d p q k h) after m0 m2
list_writes c cs d p q k h mid after m0 m1 m2 pointer count place pointer_is count_is place_is first stays part handle row =
    rw (← pointer_is, ← count_is) (both_write head (written_each (running c cs) d count pointer G) mid m0 m1 first_writes after m2 (rw place_is at row))
  where
    G : ℕ
    G = place_of c.given k

    head : Written
    head = record { bytes = pointer_bytes q G count; part = k + 1; handle = h }

    first_writes : Writes head mid m0 m1
    first_writes = record { stored = first; stays = stays; part = part; handle = handle }

pub elements_ready : (c : Copying) (cs : Puts) (d p k h : ℕ) (mid : Next) (m0 m1 : List ℕ) (pointer count place : ℕ)
    → pointer ≡ number_at 4 c.memory p → count ≡ number_at 4 c.memory (p + 4) → place ≡ place_of c.given k
    → length m1 ≡ length m0 → mid.part ≡ k + 1 → mid.handle ≡ h
    → IsListPutReady (length m0) c (ArePutsReady (length m0) c cs) (running c cs) d (number_at 4 c.memory p) (number_at 4 c.memory (p + 4)) k h
    → (pointer + count * d ≤ length c.memory) × (place + count * d ≤ length m1)
    × AreEachPutReady (ArePutsReady (length m1) c cs) (running c cs) d count pointer place mid.part mid.handle
elements_ready c cs d p k h mid m0 m1 pointer count place pointer_is count_is place_is stays part handle ready =
    rw (pointer_is, count_is, place_is, stays, part, handle) (ready.0, ready.1.1, ready.2)

-- ---- each form of a put

module _ (x : CodedPut) where
  pub form_List : (at d : ℕ) (cs : Arc (Vec CodedPut Global) Global) (items : List CodedPut) → x ≡ view.List at d cs → items ≡ cs.value.items → put_of x ≡ list_put at d (puts_in items)
  form_List at d cs items is same = ap put_of is ∙ seen_List at d cs ∙ ap (λ xs. list_put at d (puts_in xs)) (sym same)

  pub form_Each : (at d n : ℕ) (cs : Arc (Vec CodedPut Global) Global) (items : List CodedPut) → x ≡ view.Each at d n cs → items ≡ cs.value.items → put_of x ≡ each_put at d n (puts_in items)
  form_Each at d n cs items is same = ap put_of is ∙ seen_Each at d n cs ∙ ap (λ xs. each_put at d n (puts_in xs)) (sym same)

  pub form_Cases : (at b d : ℕ) (cs : Arc (Vec CodedCase Global) Global) → x ≡ view.Cases at b d cs → put_of x ≡ cases_put at b d (case_puts_from (map case_of cs.value.items))
  form_Cases at b d cs is = ap put_of is ∙ seen_Cases at b d cs

pub lies_as : (a b : Put) (p source q memory : ℕ) → a ≡ b → LiesBetween a p source q memory → LiesBetween b p source q memory
lies_as a b p source q memory is = subst (λ y. LiesBetween y p source q memory) is

pub ready_as : (n : ℕ) (c : Copying) (a b : Put) (p q k h : ℕ) → a ≡ b → IsPutReady n c a p q k h → IsPutReady n c b p q k h
ready_as n c a b p q k h is = subst (λ y. IsPutReady n c y p q k h) is

pub writes_as : (c : Copying) (a b : Put) (p q k h : ℕ) (after : Next) (old new : List ℕ) → a ≡ b → Writes (running_one c b p q k h) after old new → Writes (running_one c a p q k h) after old new
writes_as c a b p q k h after old new is = subst (λ y. Writes (running_one c y p q k h) after old new) (sym is)

-- ---- cases

case_at : (c : Copying) (cs : List CodedCase) (i p q k h : ℕ) (x : CodedCase) → i < length cs → x ≡ get_or cs i x
    → case_written (seen_from c) c.given (case_puts_from (map case_of cs)) i p q k h ≡ running c (case_of x) p q k h
case_at c [] i p q k h x lt is = absurd (omega (arith, lt))
case_at c (y ∷ cs) zero p q k h x lt is = ap (λ r. running c (case_of r) p q k h) (sym is)
case_at c (y ∷ cs) (suc i) p q k h x lt is = case_at c cs i p q k h x (omega (arith, lt)) is

case_past : (c : Copying) (cs : List CodedCase) (i p q k h : ℕ) → length cs ≤ i
    → case_written (seen_from c) c.given (case_puts_from (map case_of cs)) i p q k h ≡ written_bytes [] k h
case_past c [] i p q k h past = refl
case_past c (y ∷ cs) zero p q k h past = absurd (omega (arith, past))
case_past c (y ∷ cs) (suc i) p q k h past = case_past c cs i p q k h (omega (arith, past))

case_ready : (n : ℕ) (c : Copying) (cs : List CodedCase) (i p q k h : ℕ) (x : CodedCase) → i < length cs → x ≡ get_or cs i x
    → IsCasePutReady n c (case_puts_from (map case_of cs)) i p q k h → ArePutsReady n c (case_of x) p q k h
case_ready n c [] i p q k h x lt is r = absurd (omega (arith, lt))
case_ready n c (y ∷ cs) zero p q k h x lt is r = subst (λ z. ArePutsReady n c (case_of z) p q k h) (sym is) r
case_ready n c (y ∷ cs) (suc i) p q k h x lt is r = case_ready n c cs i p q k h x (omega (arith, lt)) is r

case_lies : (m : ℕ) (cs : List CodedCase) (i : ℕ) (x : CodedCase) → i < length cs → x ≡ get_or cs i x → AreCasePutsWithin m (case_puts_from (map case_of cs)) → ArePutsWithin m (case_of x)
case_lies m [] i x lt is h = absurd (omega (arith, lt))
case_lies m (y ∷ cs) zero x lt is h = subst (λ r. ArePutsWithin m (case_of r)) (sym is) h.0
case_lies m (y ∷ cs) (suc i) x lt is h = case_lies m cs i x (omega (arith, lt)) is h.1

module _ (c : Copying) (x : CodedPut) (at b d : ℕ) (cs : Arc (Vec CodedCase Global) Global) (is : x ≡ view.Cases at b d cs)
    (p q i : ℕ) (next : Next) (m0 m1 : List ℕ) (number : i ≡ number_at b c.memory (p + at)) where
  abbrev CS : CasePuts
  CS = case_puts_from (map case_of cs.value.items)

  case_lie : LiesBetween (put_of x) p (length c.memory) q (length m0) → LiesBetween (cases_put at b d CS) p (length c.memory) q (length m0)
  case_lie = lies_as (put_of x) (cases_put at b d CS) p (length c.memory) q (length m0) (form_Cases x at b d cs is)

  module _ (y : CodedCase) (items : List CodedPut) (lt : i < length cs.value.items) (there : y ≡ get_or cs.value.items i y) (same : items ≡ (out-CasePuts y).puts.value.items) where
    items_are : case_of y ≡ puts_in items
    items_are = case_is y ∙ ap puts_in (sym same)

    pub carried_lie : length m1 ≡ length m0 → LiesBetween (put_of x) p (length c.memory) q (length m0) → LieBetween (puts_in items) (p + at + d) (length c.memory) (q + at + d) (length m1)
    carried_lie stays lies =
        let h = case_lie lies in
        record {
          size = h.within.3.0;
          within = subst (ArePutsWithin h.within.3.0) items_are (case_lies h.within.3.0 cs.value.items i y lt there h.within.3.2);
          read = omega (arith, h.within.3.1, h.read);
          room = omega (arith, h.within.3.1, h.room, stays);
        }

    pub carried_ready : length m1 ≡ length m0 → IsPutReady (length m0) c (put_of x) p q next.part next.handle
        → ArePutsReady (length m1) c (puts_in items) (p + at + d) (q + at + d) next.part next.handle
    carried_ready stays ready =
        let r : IsPutReady (length m0) c (cases_put at b d CS) p q next.part next.handle = ready_as (length m0) c (put_of x) (cases_put at b d CS) p q next.part next.handle (form_Cases x at b d cs is) ready in
        let one = case_ready (length m0) c cs.value.items i (p + at + d) (q + at + d) next.part next.handle y lt there (subst (λ j. IsCasePutReady (length m0) c CS j (p + at + d) (q + at + d) next.part next.handle) (sym number) r) in
        subst (λ n. ArePutsReady n c (puts_in items) (p + at + d) (q + at + d) next.part next.handle) (sym stays)
        (subst (λ ps. ArePutsReady (length m0) c ps (p + at + d) (q + at + d) next.part next.handle) items_are one)

  number_writes : m1 ≡ poke (placed (q + at) (bytes_of b (number_at b c.memory (p + at)))) m0 → length m1 ≡ length m0
      → Writes (written_bytes (placed (q + at) (bytes_of b (number_at b c.memory (p + at)))) next.part next.handle) next m0 m1
  number_writes first stays = record { stored = first; stays = stays; part = refl; handle = refl }

  abbrev carried : ℕ → ℕ → Written
  carried = case_written (seen_from c) c.given CS (number_at b c.memory (p + at)) (p + at + d) (q + at + d)

  cases_write : m1 ≡ poke (placed (q + at) (bytes_of b (number_at b c.memory (p + at)))) m0 → length m1 ≡ length m0
      → (after : Next) (m2 : List ℕ) → Writes (carried next.part next.handle) after m1 m2 → Writes (running_one c (put_of x) p q next.part next.handle) after m0 m2
  cases_write first stays after m2 w =
      writes_as c (put_of x) (cases_put at b d CS) p q next.part next.handle after m0 m2 (form_Cases x at b d cs is)
      (both_write (written_bytes (placed (q + at) (bytes_of b (number_at b c.memory (p + at)))) next.part next.handle) carried next m0 m1 (number_writes first stays) after m2 w)

  pub case_writes : (y : CodedCase) (items : List CodedPut) → i < length cs.value.items → y ≡ get_or cs.value.items i y → items ≡ (out-CasePuts y).puts.value.items
      → m1 ≡ poke (placed (q + at) (bytes_of b (number_at b c.memory (p + at)))) m0 → length m1 ≡ length m0
      → (after : Next) (m2 : List ℕ) → Writes (running c (puts_in items) (p + at + d) (q + at + d) next.part next.handle) after m1 m2
      → Writes (running_one c (put_of x) p q next.part next.handle) after m0 m2
  case_writes y items lt there same first stays after m2 w =
      cases_write first stays after m2
      (rw (← number, case_at c cs.value.items i (p + at + d) (q + at + d) next.part next.handle y lt there, items_are y items lt there same) w)

  pub bare_writes : length cs.value.items ≤ i → m1 ≡ poke (placed (q + at) (bytes_of b (number_at b c.memory (p + at)))) m0 → length m1 ≡ length m0
      → Writes (running_one c (put_of x) p q next.part next.handle) next m0 m1
  bare_writes past first stays =
      cases_write first stays next m1
      (rw (← number, case_past c cs.value.items i (p + at + d) (q + at + d) next.part next.handle past) (record { stored = refl; stays = refl; part = refl; handle = refl }))
