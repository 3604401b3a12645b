-- Where what a type holds begins, and what its cases carry, one after another.
use Rattle.std.proofs.Math.Nat.{add_assoc}
use Rattle.std.proofs.Common.{◌≡◌, ℕ, zero, suc, ◌+◌, ◌<◌, ◌≤◌, List, [], ◌∷◌, ◌++◌, append_assoc, append-nil, drop, length, map, get_or, refl, sym, ap, ◌∙◌, rules, arith}
use Rattle.std.specs.Prelude.{Bool, true, false, if◌then◌else◌, is_some, IfOk, MatchResult, Option, Some, None, Result, Ok, Err}
use Rattle.std.specs.declared.alloc.Global.{Global}
use Rattle.std.specs.declared.sync.Arc.{Arc}
use Rattle.std.specs.declared.vec.Vec.{Vec}
use Rattle.cm_layout.specs.Layouts.{layout_of, part_of, payload_of}
use Rattle.cm_layout.proofs.LayoutLemmas.{seen_head}
use Rattle.cm_layout.specs.Shapes.{LayoutTy, parts_from}
use Rattle.cm_layout.specs.declared.heads.Head.{Head}
use Rattle.cm_layout.specs.declared.layouts.Form.{the_lemmas}
use Rattle.cm_layout.specs.declared.layouts.Layout.{out-Layout}
use Rattle.cm_layout.specs.declared.layouts.Part.{Part, out-Part}
use Rattle.cm_layout.specs.declared.layouts.Payload.{Payload}
use Rattle.cm_abi_programs.specs.Held.{items_at, items_of, part_offsets, slot_offsets, spread}
use Rattle.cm_abi_programs.specs.PlacedFields.{member_count, member_counts}
use Rattle.cm_lemmas.proofs.Lists.{drop_past, next_element}

-- ---- fields

pub seen_offset : (p : Part) → (out-Part p).offset ≡ (part_of p).0
seen_offset p = search (rules, the_lemmas)

seen_layout : (p : Part) → (part_of p).1 ≡ layout_of (out-Part p).layout
seen_layout p = search (rules, the_lemmas)

pub seen_width : (p : Part) (at next : ℕ) → next ≡ at + (out-Layout (out-Part p).layout).head.width → next ≡ at + (part_of p).1.head.width
seen_width p at next is =
    is ∙ ap (λ (w : ℕ). at + w) (sym (ap (λ (l : LayoutTy). l.head.width) (seen_layout p) ∙ ap (λ (h : Head). h.width) (seen_head (out-Part p).layout)))

pub offsets_next : (ps : List Part) (i o : ℕ) (x : Part) (front all : List ℕ) → i < length ps → x ≡ get_or ps i x → o ≡ (part_of x).0 → all ≡ front ++ o ∷ []
    → all ++ part_offsets (parts_from (map part_of (drop (i + 1) ps))) ≡ front ++ part_offsets (parts_from (map part_of (drop i ps)))
offsets_next ps i o x front all lt is place grown =
    let rest = part_offsets (parts_from (map part_of (drop (i + 1) ps))) in
    ap (λ xs. xs ++ rest) grown
    ∙ append_assoc front (o ∷ []) rest
    ∙ ap (λ p. front ++ p ∷ rest) place
    ∙ ap (λ qs. front ++ part_offsets (parts_from qs)) (sym (next_element part_of ps i x lt is))

pub offsets_end : (ps : List Part) (i : ℕ) (front : List ℕ) → length ps ≤ i → front ≡ front ++ part_offsets (parts_from (map part_of (drop i ps)))
offsets_end ps i front past = sym (append-nil front) ∙ ap (λ qs. front ++ part_offsets (parts_from (map part_of qs))) (sym (drop_past ps i past))

pub slots_next : (ps : List Part) (i at next : ℕ) (x : Part) (front all : List ℕ) → i < length ps → x ≡ get_or ps i x → next ≡ at + (part_of x).1.head.width → all ≡ front ++ at ∷ []
    → all ++ slot_offsets (parts_from (map part_of (drop (i + 1) ps))) next ≡ front ++ slot_offsets (parts_from (map part_of (drop i ps))) at
slots_next ps i at next x front all lt is behind grown =
    let rest = slot_offsets (parts_from (map part_of (drop (i + 1) ps))) next in
    ap (λ xs. xs ++ rest) grown
    ∙ append_assoc front (at ∷ []) rest
    ∙ ap (λ n. front ++ at ∷ slot_offsets (parts_from (map part_of (drop (i + 1) ps))) n) behind
    ∙ ap (λ qs. front ++ slot_offsets (parts_from qs) at) (sym (next_element part_of ps i x lt is))

pub slots_end : (ps : List Part) (i at : ℕ) (front : List ℕ) → length ps ≤ i → front ≡ front ++ slot_offsets (parts_from (map part_of (drop i ps))) at
slots_end ps i at front past = sym (append-nil front) ∙ ap (λ qs. front ++ slot_offsets (parts_from (map part_of qs)) at) (sym (drop_past ps i past))

-- ---- how many members lists make

module _ {A : Type 0} where
  pub members_next : (cs : List (Arc (Vec A Global) Global)) (i n m : ℕ) (c : Arc (Vec A Global) Global) → i < length cs → c ≡ get_or cs i c → m ≡ n + member_count (length c.value.items)
      → m + member_counts (items_of (drop (i + 1) cs)) ≡ n + member_counts (items_of (drop i cs))
  members_next cs i n m c lt is more =
      let rest = member_counts (items_of (drop (i + 1) cs)) in
      ap (λ k. k + rest) more ∙ (add_assoc n (member_count (length c.value.items)) rest ∙ ap (λ ls. n + member_counts ls) (sym (next_element (λ (l : Arc (Vec A Global) Global). l.value.items) cs i c lt is)))

  pub members_end : (cs : List (Arc (Vec A Global) Global)) (i n : ℕ) → length cs ≤ i → n ≡ n + member_counts (items_of (drop i cs))
  members_end cs i n past =
      let none : member_counts (items_of (drop i cs)) ≡ 0 = ap (λ xs. member_counts (items_of xs)) (drop_past cs i past) in
      omega (arith, none)

-- ---- cases

module _ {A : Type 0} where
  spread_head : (l : LayoutTy) (ps : List (Option LayoutTy)) (ls : List (List A)) (n : ℕ) → spread (Some l ∷ ps) (drop n ls) ≡ items_at ls n ∷ spread ps (drop (suc n) ls)
  spread_head l ps [] zero = refl
  spread_head l ps [] (suc n) = refl
  spread_head l ps (c ∷ ls) zero = refl
  spread_head l ps (c ∷ ls) (suc n) = spread_head l ps ls n

  spread_one : (o : Option LayoutTy) (ps : List (Option LayoutTy)) (ls : List (List A)) (n : ℕ)
      → spread (o ∷ ps) (drop n ls) ≡ (if is_some o then items_at ls n else []) ∷ spread ps (drop (if is_some o then n + 1 else n) ls)
  spread_one None ps ls n = refl
  spread_one (Some l) ps ls n = spread_head l ps ls n ∙ ap (λ m. items_at ls n ∷ spread ps (drop m ls)) {x = suc n} {y = n + 1} (omega arith)

  items_pushed : (xs : List (Arc (Vec A Global) Global)) (c : Arc (Vec A Global) Global) → items_of (xs ++ c ∷ []) ≡ items_of xs ++ c.value.items ∷ []
  items_pushed [] c = refl
  items_pushed (x ∷ xs) c = ap (λ ls. x.value.items ∷ ls) (items_pushed xs c)

  pub spread_next : (ps : List Payload) (i n m : ℕ) (x : Payload) (ls : List (List A)) (front all : List (Arc (Vec A Global) Global)) (c : Arc (Vec A Global) Global) (carried : Bool)
      → i < length ps → x ≡ get_or ps i x → carried ≡ is_some (payload_of x) → c.value.items ≡ (if carried then items_at ls n else []) → m ≡ (if carried then n + 1 else n)
      → all ≡ front ++ c ∷ []
      → items_of all ++ spread (map payload_of (drop (i + 1) ps)) (drop m ls) ≡ items_of front ++ spread (map payload_of (drop i ps)) (drop n ls)
  spread_next ps i n m x ls front all c carried lt is has list next grown =
      let rest = spread (map payload_of (drop (i + 1) ps)) (drop m ls) in
      ap (λ xs. items_of xs ++ rest) grown
      ∙ ap (λ xs. xs ++ rest) (items_pushed front c)
      ∙ append_assoc (items_of front) (c.value.items ∷ []) rest
      ∙ ap (λ xs. items_of front ++ xs ∷ rest) list
      ∙ ap (λ k. items_of front ++ (if carried then items_at ls n else []) ∷ spread (map payload_of (drop (i + 1) ps)) (drop k ls)) next
      ∙ ap (λ b. items_of front ++ (if b then items_at ls n else []) ∷ spread (map payload_of (drop (i + 1) ps)) (drop (if b then n + 1 else n) ls)) has
      ∙ ap (λ xs. items_of front ++ xs) (sym (spread_one (payload_of x) (map payload_of (drop (i + 1) ps)) ls n))
      ∙ ap (λ qs. items_of front ++ spread qs (drop n ls)) (sym (next_element payload_of ps i x lt is))

  pub spread_end : (ps : List Payload) (i : ℕ) (ls : List (List A)) (front : List (List A)) → length ps ≤ i → front ≡ front ++ spread (map payload_of (drop i ps)) ls
  spread_end ps i ls front past = sym (append-nil front) ∙ ap (λ qs. front ++ spread (map payload_of qs) ls) (sym (drop_past ps i past))

  pub items_there : (cs : List (Arc (Vec A Global) Global)) (n : ℕ) (c : Arc (Vec A Global) Global) → n < length cs → c ≡ get_or cs n c → c.value.items ≡ items_at (items_of cs) n
  items_there [] n c lt is = absurd (omega (arith, lt))
  items_there (d ∷ cs) zero c lt is = ap (λ (l : Arc (Vec A Global) Global). l.value.items) is
  items_there (d ∷ cs) (suc n) c lt is = items_there cs n c (omega (arith, lt)) is

  pub items_past : (cs : List (Arc (Vec A Global) Global)) (n : ℕ) → length cs ≤ n → [] ≡ items_at (items_of cs) n
  items_past [] zero past = refl
  items_past [] (suc n) past = refl
  items_past (d ∷ cs) zero past = absurd (omega (arith, past))
  items_past (d ∷ cs) (suc n) past = items_past cs n (omega (arith, past))

  -- the only list, shared
  pub only_shared : (ls : List (Arc (Vec A Global) Global)) (l x : Arc (Vec A Global) Global) → length ls ≡ 1 → l ≡ get_or ls 0 l → x.value ≡ l.value → items_of ls ≡ x.value.items ∷ []
  only_shared [] l x one is same = absurd (omega (arith, one))
  only_shared (y ∷ []) l x one is same = ap (λ (v : Vec A Global). v.items ∷ []) (ap (λ (r : Arc (Vec A Global) Global). r.value) (sym is) ∙ sym same)
  only_shared (y ∷ z ∷ ls) l x one is same = absurd (omega (arith, one))

-- what holds of a value where there is one
pub where_ok : {X E : Type 0} (r : Result X E) (P Q : X → Type 0) (R : E → Type 0) → MatchResult r P R → ((x : X) → P x → Q x) → IfOk r Q
where_ok (Ok x) P Q R h more = more x h
where_ok (Err e) P Q R h more = tt

pub next_within : (b : Bool) (n m i : ℕ) → m ≡ (if b then n + 1 else n) → n ≤ i → m ≤ i + 1
next_within true n m i is le = omega (arith, is, le)
next_within false n m i is le = omega (arith, is, le)
