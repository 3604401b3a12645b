-- What loops over fields and cases keep, and what it gives in the end.
use Rattle.std.proofs.Common.{◌≡◌, ℕ, ◌+◌, ◌*◌, ◌≤◌, ◌<◌, max, true, false, ◌&&◌, List, [], length, Option, Some, None, refl, sym, ap, ◌∙◌, arith, ◌||◌, zero-add, length-append, codes}
use Rattle.std.proofs.lemmas.Bool.{eq-eqb, ne_eqb}
use Rattle.std.proofs.lemmas.Bool.Decides.{nat_tests}
use Rattle.std.specs.Prelude.{◌==◌}
use Rattle.cm_types.specs.Types.{Ty, Fields, Cases, FieldsKind, CasesKind, option_type, fixed_list, fields, cases, flags, no_fields, field, no_cases, plain, carrying}
use Rattle.cm_types.specs.TypeTrees.{case_before, plain_from}
use Rattle.cm_types.specs.Limits.{nodes_of, nodes_of_fields, nodes_of_cases, payload_nodes}
use Rattle.cm_layout.specs.Alignment.{align_to}
use Rattle.cm_layout.specs.Sizes.{align_of, align_of_fields, align_of_payloads, case_count, discriminant_size, flags_size, size_of, end_of, greatest_payload}
use Rattle.cm_layout.specs.Flattening.{copies, flat_of, flat_of_fields, flat_of_cases, flat_of_payload}
use Rattle.cm_layout.specs.PlainBytes.{is_bulk, number_bytes, number_bytes_of_fields}
use Rattle.cm_layout.specs.Heads.{AreGreatestOf, IsTakenBy, LeavesCases, LeavesFields, TakeTogether}
use Rattle.cm_layout.specs.declared.fields.FieldsSoFar.{FieldsSoFar}
use Rattle.cm_layout.specs.declared.cases.CasesSoFar.{CasesSoFar}
use Rattle.cm_layout.specs.declared.heads.Head.{Head}
use Rattle.cm_layout.proofs.AlignLemmas.{align_before, payload_align_pos, enum_align, flags_pos, align_pos, fields_align_pos, payloads_align_pos}
use Rattle.cm_layout.proofs.SizeLemmas.{place_above, two_nodes, enum_size, greatest_before, align_small, fields_align_small, payloads_align_small, size_small, end_small, payload_small, place_of_type}
use Rattle.cm_layout.proofs.WidthLaws.{flat_plain, copies_long, join_long, narrow, fields_narrow, cases_narrow}
use Rattle.cm_layout.proofs.BulkLaws.{numbers_fit, fields_bulk, fixed_list_bulk, cases_not_bulk}
use Rattle.cm_types.proofs.Nodes.{before_nodes}
use Rattle.cm_lemmas.proofs.Numbers.{times_least}

-- ---- from numbers to what a type takes

pub taken : (t : Ty) (h : Head) → h.size ≡ size_of t → h.align ≡ align_of t → h.width ≡ length (flat_of t) → h.is_bulk ≡ is_bulk t → IsTakenBy t h
taken t h e f g i =
    record {
      size = e;
      align = f;
      width = g;
      is_bulk = i;
      small = rw e (size_small t);
      narrow = rw g (narrow t);
      positive = rw f (align_pos t);
      near = rw f (align_small t);
    }

-- a list of fixed length, from its element
pub fixed_list_taken : (t : Ty) (n : ℕ) (e h : Head) → IsTakenBy t e → h.size ≡ n * e.size → h.align ≡ e.align → h.width ≡ n * e.width → h.is_bulk ≡ ((n == 0) || e.is_bulk) → IsTakenBy (fixed_list t n) h
fixed_list_taken t n e h i f g k l =
    taken (fixed_list t n) h
    (f ∙ ap (λ x. n * x) i.size)
    (g ∙ i.align)
    (k ∙ ap (λ x. n * x) i.width ∙ sym (copies_long n (flat_of t)))
    (l ∙ ap (λ b. (n == 0) || b) i.is_bulk ∙ sym (fixed_list_bulk t n))

-- there is room for so many elements
pub fixed_list_room : (t : Ty) (n : ℕ) (e : Head) → nodes_of (fixed_list t n) ≤ 10000 → IsTakenBy t e → (n * e.size < 4294967296) × (n * e.width < 4294967296)
fixed_list_room t n e h k =
    let s : n * e.size ≡ n * size_of t = ap (λ x. n * x) k.size in
    let w : n * e.width ≡ length (copies n (flat_of t)) = ap (λ x. n * x) k.width ∙ sym (copies_long n (flat_of t)) in
    (omega (arith, s, size_small (fixed_list t n)), omega (arith, w, narrow (fixed_list t n)))

-- cases, from the greatest of what they carry
pub cases_taken : (k : CasesKind) (cs : Cases) (s : CasesSoFar) (d : ℕ) (h : Head) → AreGreatestOf cs s → d ≡ discriminant_size (case_count cs)
    → h.size ≡ align_to (max d s.align) (align_to s.align d + s.size) → h.align ≡ max d s.align → h.width ≡ 1 + s.width → h.is_bulk ≡ false → IsTakenBy (cases k cs) h
cases_taken k cs s d h g e f i j l =
    taken (cases k cs) h (f ∙ rw (g.align, g.size, e) refl) (i ∙ rw (g.align, e) refl) (j ∙ ap (λ x. 1 + x) g.width ∙ omega arith) (l ∙ sym (cases_not_bulk k cs))

-- fields, of which none is taken yet
pub no_field_taken : (all : Fields) (s : FieldsSoFar) → s ≡ record { end = 0; align = 1; width = 0; is_bulk = true } → nodes_of_fields all ≤ 10000 → LeavesFields all all s
no_field_taken all s e h = from_start all s (ap (λ x. x.end) e) (ap (λ x. x.align) e) (ap (λ x. x.width) e) (ap (λ x. x.is_bulk) e) h
  where
    from_start : (all : Fields) (s : FieldsSoFar) → s.end ≡ 0 → s.align ≡ 1 → s.width ≡ 0 → s.is_bulk ≡ true → nodes_of_fields all ≤ 10000 → LeavesFields all all s
    from_start all s e f g i h =
        record {
          end = ap (end_of all) e;
          align = omega (arith, fields_align_pos all);
          width = omega arith;
          is_bulk = i ∙ sym (eq-eqb (number_bytes_of_fields all) (number_bytes_of_fields all + s.end) (omega arith));
          fit = omega arith;
          room = omega arith;
          space = omega arith;
          positive = omega arith;
          near = omega arith;
        }

-- a field with x bytes of numbers and s bytes stands at p, behind what ends at e; all have n bytes of numbers, and those behind it m
one_more_bulk : (n m x s p e : ℕ) → x ≤ s → e ≤ p → n ≤ x + m + e → ((n == (x + m + e)) && ((x == s) && (p == e))) ≡ (n == (m + (p + s)))
one_more_bulk n m x s p e h k l = grind (arith, nat_tests)

-- one more field
pub field_taken : (l : List ℕ) (t : Ty) (all rest : Fields) (s r : FieldsSoFar) (h : Head) → LeavesFields all (field l t rest) s → IsTakenBy t h
    → r.end ≡ align_to h.align s.end + h.size → r.align ≡ max s.align h.align → r.width ≡ s.width + h.width → r.is_bulk ≡ (s.is_bulk && (h.is_bulk && (align_to h.align s.end == s.end))) → LeavesFields all rest r
field_taken l t all rest s r h b k e f g i =
    let p : r.end ≡ align_to (align_of t) s.end + size_of t = e ∙ rw (k.align, k.size) refl in
    let near : align_to (align_of t) s.end ≤ s.end + 7 = place_of_type t s.end in
    let above : s.end ≤ align_to (align_of t) s.end = place_above (align_of t) s.end (align_pos t) in
    let w : length (flat_of_fields (field l t rest)) ≡ length (flat_of t) + length (flat_of_fields rest) = length-append (flat_of t) (flat_of_fields rest) in
    record {
      end = rw p b.end;
      align = omega (arith, b.align, k.align);
      width = omega (arith, b.width, k.width, w);
      is_bulk =
          i ∙ rw (b.is_bulk, k.is_bulk, k.align, p)
          (one_more_bulk (number_bytes_of_fields all) (number_bytes_of_fields rest) (number_bytes t) (size_of t) (align_to (align_of t) s.end) s.end (numbers_fit t) above b.fit);
      fit = omega (arith, b.fit, numbers_fit t);
      room = omega (arith, b.room, k.small, k.size);
      space = omega (arith, b.space, k.narrow);
      positive = omega (arith, b.positive);
      near = omega (arith, b.near, k.near);
    }

-- fields, once none is left
pub fields_all_taken : (all : Fields) (s : FieldsSoFar) → LeavesFields all no_fields s → TakeTogether all s
fields_all_taken all s b =
    let a : s.align ≡ align_of_fields all = omega (arith, b.align, b.positive) in
    let w : s.width ≡ length (flat_of_fields all) = omega (arith, b.width) in
    record {
      end = b.end;
      align = a;
      width = w;
      is_bulk = b.is_bulk ∙ rw b.end (ap (λ m. number_bytes_of_fields all == m) (zero-add (end_of all 0)));
      small = rw b.end (omega (arith, end_small all 0));
      narrow = rw w (fields_narrow all);
      positive = b.positive;
      near = b.near;
    }

pub fields_taken : (k : FieldsKind) (fs : Fields) (s : FieldsSoFar) (h : Head) → TakeTogether fs s
    → h.size ≡ align_to s.align s.end → h.align ≡ s.align → h.width ≡ s.width → h.is_bulk ≡ (s.is_bulk && (align_to s.align s.end == s.end)) → IsTakenBy (fields k fs) h
fields_taken k fs s h b e f g i =
    taken (fields k fs) h (e ∙ rw (b.align, b.end) refl) (f ∙ b.align) (g ∙ b.width) (i ∙ rw (b.is_bulk, b.align, b.end) (fields_bulk k fs))

-- cases, of which none is taken yet
pub no_case_taken : (all : Cases) (s : CasesSoFar) → s ≡ record { size = 0; align = 1; width = 0 } → nodes_of_cases all ≤ 10000 → LeavesCases all all s
no_case_taken all s e h = from_start all s (ap (λ x. x.size) e) (ap (λ x. x.align) e) (ap (λ x. x.width) e) h
  where
    from_start : (all : Cases) (s : CasesSoFar) → s.size ≡ 0 → s.align ≡ 1 → s.width ≡ 0 → nodes_of_cases all ≤ 10000 → LeavesCases all all s
    from_start all s e f g h =
        record { size = omega arith; align = omega (arith, payloads_align_pos all); width = omega arith; room = h; few = h; positive = omega arith; near = omega arith }

-- one more case, from what it carries
pub case_taken : (l m : List ℕ) (p : Option Ty) (all rest : Cases) (s o r : CasesSoFar) → LeavesCases all (case_before l p rest) s → AreGreatestOf (case_before m p no_cases) o
    → r.size ≡ max s.size o.size → r.align ≡ max s.align o.align → r.width ≡ max s.width o.width → LeavesCases all rest r
case_taken l m None all rest s o r b g e f i =
    record {
      size = omega (arith, b.size, g.size);
      align = omega (arith, b.align, g.align, payloads_align_pos rest);
      width = omega (arith, b.width, g.width);
      room = b.room;
      few = b.few;
      positive = omega (arith, b.positive);
      near = omega (arith, b.near, g.near);
    }
case_taken l m (Some t) all rest s o r b g e f i =
    let w : length (flat_of_cases (carrying m t no_cases)) ≡ length (flat_of t) = join_long (flat_of t) [] ∙ omega arith in
    let v : length (flat_of_cases (carrying l t rest)) ≡ max (length (flat_of t)) (length (flat_of_cases rest)) = join_long (flat_of t) (flat_of_cases rest) in
    record {
      size = omega (arith, b.size, g.size);
      align = omega (arith, b.align, g.align, align_pos t);
      width = omega (arith, b.width, g.width, w, v);
      room = b.room;
      few = omega (arith, b.few);
      positive = omega (arith, b.positive);
      near = omega (arith, b.near, g.near);
    }

-- the bounds follow from the numbers
greatest_of : (cs : Cases) (s : CasesSoFar) → s.size ≡ greatest_payload cs → s.align ≡ align_of_payloads cs → s.width ≡ length (flat_of_cases cs) → AreGreatestOf cs s
greatest_of cs s e f g =
    record {
      size = e;
      align = f;
      width = g;
      small = rw e (payload_small cs);
      narrow = rw g (cases_narrow cs);
      positive = rw f (payloads_align_pos cs);
      near = rw f (payloads_align_small cs);
    }

-- once no case is left
pub cases_all_taken : (all : Cases) (s : CasesSoFar) → LeavesCases all no_cases s → AreGreatestOf all s
cases_all_taken all s b = greatest_of all s (omega (arith, b.size)) (omega (arith, b.align, b.positive)) (omega (arith, b.width))

width_before : (l : List ℕ) (p : Option Ty) (cs : Cases) → length (flat_of_cases (case_before l p cs)) ≡ max (length (flat_of_payload p)) (length (flat_of_cases cs))
width_before l None cs = omega arith
width_before l (Some t) cs = join_long (flat_of t) (flat_of_cases cs)

-- nothing, or one payload
pub none_greatest : (l : List ℕ) (s : CasesSoFar) → s ≡ record { size = 0; align = 1; width = 0 } → AreGreatestOf (plain l no_cases) s
none_greatest l s e = greatest_of (plain l no_cases) s (ap (λ x. x.size) e) (ap (λ x. x.align) e) (ap (λ x. x.width) e)

pub one_greatest : (l m : List ℕ) (t : Ty) (h : Head) (n s : CasesSoFar) → n ≡ record { size = 0; align = 1; width = 0 } → IsTakenBy t h
    → s.size ≡ max n.size h.size → s.align ≡ max n.align h.align → s.width ≡ max n.width h.width → AreGreatestOf (plain l (carrying m t no_cases)) s
one_greatest l m t h n s o k e f g =
    greatest_of (plain l (carrying m t no_cases)) s
    (e ∙ rw (o, k.size) (omega arith))
    (f ∙ rw (o, k.align) (omega (arith, align_pos t)))
    (g ∙ rw (o, k.width) (omega (arith, join_long (flat_of t) [])))

-- what two cases carry, from what each does
pub both_greatest : (l m a b : List ℕ) (p q : Option Ty) (o r s : CasesSoFar) → AreGreatestOf (case_before a p no_cases) o → AreGreatestOf (case_before b q no_cases) r
    → s.size ≡ max o.size r.size → s.align ≡ max o.align r.align → s.width ≡ max o.width r.width → AreGreatestOf (case_before l p (case_before m q no_cases)) s
both_greatest l m a b p q o r s g h e f i =
    greatest_of (case_before l p (case_before m q no_cases)) s
    (e ∙ rw (g.size, h.size, greatest_before a p no_cases, greatest_before b q no_cases, greatest_before l p (case_before m q no_cases), greatest_before m q no_cases) (omega arith))
    (f ∙ rw (g.align, h.align, align_before a p no_cases, align_before b q no_cases, align_before l p (case_before m q no_cases), align_before m q no_cases) (omega (arith, payload_align_pos p, payload_align_pos q)))
    (i ∙ rw (g.width, h.width, width_before a p no_cases, width_before b q no_cases, width_before l p (case_before m q no_cases), width_before m q no_cases) (omega arith))

-- a result has room for what its cases carry
pub result_room : (u : Ty) (k : CasesKind) (l m a b : List ℕ) (p q : Option Ty) (o r : CasesSoFar) → u ≡ cases k (case_before l p (case_before m q no_cases)) → nodes_of u ≤ 10000
    → AreGreatestOf (case_before a p no_cases) o → AreGreatestOf (case_before b q no_cases) r → (max o.size r.size ≤ 320000) × (max o.width r.width ≤ 20000)
result_room u k l m a b p q o r e h g i =
    let n : nodes_of u ≡ 1 + (payload_nodes p + payload_nodes q) = ap nodes_of e ∙ two_nodes k l m p q in
    let x : nodes_of_cases (case_before a p no_cases) ≡ payload_nodes p + 0 = before_nodes a p no_cases in
    let y : nodes_of_cases (case_before b q no_cases) ≡ payload_nodes q + 0 = before_nodes b q no_cases in
    (omega (arith, g.small, i.small), omega (arith, g.narrow, i.narrow))

-- ---- enums and flags

pub enum_taken : (k : CasesKind) (ls : List (List ℕ)) (n d : ℕ) (h : Head) → n ≡ length ls → d ≡ discriminant_size n → h ≡ record { size = d; align = d; width = 1; is_bulk = false } → IsTakenBy (cases k (plain_from ls)) h
enum_taken k ls n d h e f g =
    taken (cases k (plain_from ls)) h
    (enum_size k h.size n ls (ap (λ x. x.size) g ∙ f) e)
    (enum_align k h.align n ls (ap (λ x. x.align) g ∙ f) e)
    (ap (λ x. x.width) g ∙ omega (arith, ap length (flat_plain ls)))
    (ap (λ x. x.is_bulk) g ∙ sym (cases_not_bulk k (plain_from ls)))

-- what is the head of a type is what it takes
pub head_taken : (u t : Ty) (h k : Head) → u ≡ t → h ≡ k → k.size ≡ size_of t → k.align ≡ align_of t → k.width ≡ length (flat_of t) → k.is_bulk ≡ is_bulk t → IsTakenBy u h
head_taken u t h k e f size align width bulk =
    rw (e, f) (taken t k size align width bulk)

-- there is room for the end of fields
pub fields_room : (u : Ty) (k : FieldsKind) (fs : Fields) (s : FieldsSoFar) → u ≡ fields k fs → nodes_of u ≤ 10000 → TakeTogether fs s → s.end + s.align < 4294967296
fields_room u k fs s e within h =
    let n : nodes_of u ≡ nodes_of (fields k fs) = ap nodes_of e in
    omega (arith, n, within, h.small, h.near)

-- the greater of two alignments is one
pub both_positive : (x a b : ℕ) → x ≡ max a b → 1 ≤ a → 1 ≤ x
both_positive x a b e h = omega arith

pub both_near : (x a b : ℕ) → x ≡ max a b → a ≤ 8 → b ≤ 8 → x ≤ 8
both_near x a b e h i = omega arith

-- the number of few cases is small
pub one_small : 1 ≤ 4
one_small = omega arith

-- there is room for what has cases
pub room_for_cases : (k : CasesKind) (cs : Cases) (s : CasesSoFar) → nodes_of (cases k cs) ≤ 10000 → AreGreatestOf cs s → s.size ≤ 320000
room_for_cases k cs s within h = omega (arith, within, h.small)

pub space_for_cases : (k : CasesKind) (cs : Cases) (s : CasesSoFar) → nodes_of (cases k cs) ≤ 10000 → AreGreatestOf cs s → s.width ≤ 20000
space_for_cases k cs s within h = omega (arith, within, h.narrow)

pub room_of_option : (t : Ty) → nodes_of t + 1 ≤ 10000 → nodes_of (cases option_type (plain (codes "none") (carrying (codes "some") t no_cases))) ≤ 10000
room_of_option t h = omega (arith, h)

-- one payload takes what its type takes
pub payload_taken : (m : List ℕ) (t : Ty) (h : Head) (n s : CasesSoFar) → n ≡ record { size = 0; align = 1; width = 0 } → IsTakenBy t h
    → s.size ≡ max n.size h.size → s.align ≡ max n.align h.align → s.width ≡ max n.width h.width → AreGreatestOf (carrying m t no_cases) s
payload_taken m t h n s e k size align width =
    let g = one_greatest [] m t h n s e k size align width in
    record { size = g.size; align = g.align; width = g.width; small = g.small; narrow = g.narrow; positive = g.positive; near = g.near }

pub flags_taken : (ls : List (List ℕ)) (n d : ℕ) (h : Head) → n ≡ length ls → d ≡ flags_size n → h ≡ record { size = d; align = d; width = 1; is_bulk = false } → IsTakenBy (flags ls) h
flags_taken ls n d h e f g =
    taken (flags ls) h (ap (λ x. x.size) g ∙ f ∙ ap flags_size e) (ap (λ x. x.align) g ∙ f ∙ ap flags_size e) (ap (λ x. x.width) g)
    (ap (λ x. x.is_bulk) g ∙ sym (ne_eqb 0 (flags_size (length ls)) (λ z. absurd (omega (arith, flags_pos (length ls))))))

pub ruleset heads = (align_pos, fields_align_pos, payloads_align_pos, align_small, fields_align_small, payloads_align_small, size_small, end_small, payload_small, narrow, fields_narrow, cases_narrow, copies_long, join_long, times_least, taken)
