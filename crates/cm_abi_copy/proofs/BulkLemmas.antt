-- Bytes of numbers that are stored as they are read.
use Rattle.std.proofs.Common.{◌≡◌, ℕ, zero, suc, ◌+◌, ◌*◌, ◌-◌, ◌/◌, ◌%◌, ◌^◌, ◌<◌, ◌≤◌, List, [], ◌∷◌, ◌++◌, length, take, drop, refl, sym, ap, ◌∙◌, arith, inl, inr}
use Rattle.std.specs.Prelude.{IsTrue, if◌then◌else◌, nat_lt, neg_ℤ, pos, slice_index}
use Rattle.std.proofs.lemmas.Bool.{cases_lt, lt-ltb, le-ltb}
use Rattle.cm_types.specs.Values.{Val}
use Rattle.cm_layout.specs.declared.heads.Head.{Head}
use Rattle.cm_layout.specs.declared.layouts.Leaf.TheVariants as leaf
use Rattle.cm_layout.specs.Laid.{AreNumbers, IsMarked, IsNumbers}
use Rattle.cm_layout.specs.Shapes.{LayoutTy, Shape, Parts, leaf_shape, string_shape, list_shape, fixed_list_shape, fields_shape, cases_shape, handle_shape, no_parts, part}
use Rattle.cm_abi_load.specs.Sized.{ArePartsSized, IsNumberSize, IsSized}
use Rattle.cm_abi_model.specs.Numbers.{as_signed, number_at}
use Rattle.cm_abi_model.specs.Parts.{handle_count, handle_count_each, part_count, part_count_each}
use Rattle.cm_abi_model.specs.Stores.{Placed, Storing, bytes_of, from_signed, placed, store_each}
use Rattle.cm_abi_model.specs.Texts.{bytes_from}
use Rattle.cm_abi_store.specs.Storing.{stored_by, stored_by_fields}
use Rattle.cm_abi_running.proofs.LeafLemmas.{below_zero}
use Rattle.cm_abi_running.specs.Copying.{Copying, shown_to}
use Rattle.cm_abi_running.specs.Ready.{IsSound}
use Rattle.cm_abi_running.specs.Shown.{values_at, values_each}

-- a number with so many bytes of 0 below it
abbrev shift : ℕ → ℕ → ℕ
shift zero x = x
shift (suc w) x = 256 * shift w x

bytes_shifted : (w n x : ℕ) → bytes_of w (n + shift w x) ≡ bytes_of w n
unfolding bytes_of
bytes_shifted zero n x = refl
bytes_shifted (suc w) n x =
    let low : (n + 256 * shift w x) % 256 ≡ n % 256 = omega arith in
    let high : (n + 256 * shift w x) / 256 ≡ n / 256 + shift w x = omega arith in
    rw (low, high, bytes_shifted w (n / 256) x) refl

module _ (m : List ℕ) (small : (i : ℕ) → slice_index m i < 256) where
  number_below : (w p : ℕ) → number_at w m p < shift w 1
  unfolding number_at
  number_below zero p = omega arith
  number_below (suc w) p =
      let first = small p in
      let rest = number_below w (p + 1) in
      omega (arith, first, rest)

  take_more : (xs : List ℕ) (w p : ℕ) → p < length xs → take (suc w) (drop p xs) ≡ slice_index xs p ∷ take w (drop (p + 1) xs)
  take_more [] w p lt = absurd (omega (arith, lt))
  take_more (x ∷ xs) w zero lt = refl
  take_more (x ∷ xs) w (suc p) lt =
      let next : suc p + 1 ≡ suc (p + 1) = omega arith in
      rw next (take_more xs w p (omega (arith, lt)))

  number_back : (w p : ℕ) → p + w ≤ length m → bytes_of w (number_at w m p) ≡ bytes_from m p w
  unfolding bytes_of number_at
  number_back zero p inside = refl
  number_back (suc w) p inside =
      let b = slice_index m p in
      let r = number_at w m (p + 1) in
      let first = small p in
      let low : (b + 256 * r) % 256 ≡ b = omega (arith, first) in
      let high : (b + 256 * r) / 256 ≡ r = omega (arith, first) in
      rw (low, high, number_back w (p + 1) (omega (arith, inside))) (sym (take_more m w p (omega (arith, inside))))

  signed_back : (w n half limit : ℕ) → n < limit → limit ≡ 2 * half → limit ≤ 2 ^ 64 → (x : ℕ) → 2 ^ 64 - limit ≡ shift w x
      → bytes_of w (from_signed 8 (if nat_lt n half then pos n else neg_ℤ (pos (limit - n)))) ≡ bytes_of w n
  signed_back w n half limit below is most x shifted = elim (cases_lt n half) [
    | inl lt ↦ rw (lt-ltb n half lt) refl
    | inr past ↦ rw (le-ltb n half past, below_zero (limit - n) (omega (arith, below)), up) (bytes_shifted w n x)
  ]
    where
      up : 2 ^ 64 - (limit - n) ≡ n + shift w x
      up = omega (arith, below, most, shifted)

  leaf_back : (w p : ℕ) → IsNumberSize w → p + w ≤ length m → bytes_of w (from_signed 8 (as_signed w (number_at w m p))) ≡ bytes_from m p w
  leaf_back w p (inl is) inside = rw is (signed_back 1 (number_at 1 m p) 128 256 (number_below 1 p) refl (omega arith) 0xFF_FFFF_FFFF_FFFF refl ∙ number_back 1 p (rw is at inside))
  leaf_back w p (inr (inl is)) inside = rw is (signed_back 2 (number_at 2 m p) 0x8000 0x1_0000 (number_below 2 p) refl (omega arith) 0xFFFF_FFFF_FFFF refl ∙ number_back 2 p (rw is at inside))
  leaf_back w p (inr (inr (inl is))) inside = rw is (signed_back 4 (number_at 4 m p) 0x8000_0000 0x1_0000_0000 (number_below 4 p) refl (omega arith) 0xFFFF_FFFF refl ∙ number_back 4 p (rw is at inside))
  leaf_back w p (inr (inr (inr is))) inside = rw is (signed_back 8 (number_at 8 m p) 0x8000_0000_0000_0000 0x1_0000_0000_0000_0000 (number_below 8 p) refl (omega arith) 0 refl ∙ number_back 8 p (rw is at inside))

  -- bytes in two runs
  two_runs : (a b p q : ℕ) → p + a ≤ length m → placed q (bytes_from m p (a + b)) ≡ placed q (bytes_from m p a) ++ placed (q + a) (bytes_from m (p + a) b)
  two_runs zero b p q inside =
      let first : q + 0 ≡ q = omega arith in
      let from : p + 0 ≡ p = omega arith in
      let all : 0 + b ≡ b = omega arith in
      rw (first, from, all) refl
  two_runs (suc a) b p q inside =
      let rest = two_runs a b (p + 1) (q + 1) (omega (arith, inside)) in
      let here : q + suc a ≡ q + 1 + a = omega arith in
      let there : p + suc a ≡ p + 1 + a = omega arith in
      let sum : suc a + b ≡ suc (a + b) = omega arith in
      rw (sum, take_more m (a + b) p (omega (arith, inside)), take_more m a p (omega (arith, inside)), here, there) (ap (λ xs. (q, slice_index m p) ∷ xs) rest)

  -- what is stored at an address is as it is read at another, and has no parts and no handles
  abbrev pub StaysSame : (ℕ → ℕ → ℕ → List Placed) → ℕ → ℕ → ℕ → ℕ → ℕ → Type 0
  StaysSame stored size parts handles p q = ((k h : ℕ) → stored q k h ≡ placed q (bytes_from m p size)) × (parts ≡ 0) × (handles ≡ 0)

  each_bulk : (S : Storing) (V : ℕ → Val) (size : ℕ) → ((p q : ℕ) → p + size ≤ length m → StaysSame (S (V p)) size (part_count (V p)) (handle_count (V p)) p q) → (count p q : ℕ) → p + count * size ≤ length m
      → StaysSame (store_each S size (values_each V size count p)) (count * size) (part_count_each (values_each V size count p)) (handle_count_each (values_each V size count p)) p q
  each_bulk S V size one zero p q inside =
      let none : 0 * size ≡ 0 = omega arith in
      (λ k h. rw none refl, refl, refl)
  each_bulk S V size one (suc count) p q inside =
      let first = one p q (omega (arith, inside)) in
      let rest = each_bulk S V size one count (p + size) (q + size) (omega (arith, inside)) in
      let sum : suc count * size ≡ size + count * size = omega arith in (
        λ k h. rw (sum, two_runs size (count * size) p q (omega (arith, inside)), first.0 k h, rest.0 (k + part_count (V p)) (h + handle_count (V p))) refl,
        omega (arith, first.1, rest.1),
        omega (arith, first.2, rest.2),
      )

numbers_end : (n end : ℕ) (ps : Parts) → AreNumbers n end ps → end ≤ n
numbers_end n end no_parts is = omega (arith, is)
numbers_end n end (part o e s ps) is = let rest = numbers_end n (o + e.size) ps is.2 in omega (arith, is.0, rest)

module _ (c : Copying) (small : (i : ℕ) → slice_index c.memory i < 256) where
  mutual
    pub bulk : (sh : Shape) (size : ℕ) → IsNumbers size sh → IsSized sh → (p q : ℕ) → p + size ≤ length c.memory
        → StaysSame c.memory small (stored_by c.given sh (shown_to c sh p)) size (part_count (shown_to c sh p)) (handle_count (shown_to c sh p)) p q
    bulk (leaf_shape (leaf.Signed w)) size is sized p q inside = rw is ((λ k h. ap (placed q) (leaf_back c.memory small w p sized (rw is at inside))), refl, refl)
    bulk (leaf_shape (leaf.Unsigned w)) size is sized p q inside = rw is ((λ k h. ap (placed q) (number_back c.memory small w p (rw is at inside))), refl, refl)
    bulk (leaf_shape _) size is sized p q inside = absurd is
    bulk string_shape size is sized p q inside = absurd is
    bulk (list_shape e s) size is sized p q inside = absurd is
    bulk (fixed_list_shape e s zero) size is sized p q inside =
        let none : 0 * e.size ≡ 0 = omega arith in
        rw (is.0, none) ((λ k h. refl), refl, refl)
    bulk (fixed_list_shape e s (suc count)) size is sized p q inside =
        rw is.0 (each_bulk c.memory small (stored_by c.given s) (shown_to c s) e.size (bulk s e.size (is.1 (omega arith)) sized) (suc count) p q (rw is.0 at inside))
    bulk (fields_shape ps) size is sized p q inside =
        let all = fields_bulk ps size 0 is sized p q inside in
        let to : q + 0 ≡ q = omega arith in
        let from : p + 0 ≡ p = omega arith in
        let whole : size - 0 ≡ size = omega arith in
        (λ k h. all.0 k h ∙ rw (to, from, whole) refl, all.1, all.2)
    bulk (cases_shape d o ps) size is sized p q inside = absurd is
    bulk (handle_shape x) size is sized p q inside = absurd is

    fields_bulk : (ps : Parts) (n end : ℕ) → AreNumbers n end ps → ArePartsSized ps → (p q : ℕ) → p + n ≤ length c.memory
        → ((k h : ℕ) → stored_by_fields c.given ps (values_at c.memory c.encoding ps p) q k h ≡ placed (q + end) (bytes_from c.memory (p + end) (n - end)))
        × (part_count_each (values_at c.memory c.encoding ps p) ≡ 0) × (handle_count_each (values_at c.memory c.encoding ps p) ≡ 0)
    fields_bulk no_parts n end is sized p q inside =
        let none : n - end ≡ 0 = omega (arith, is) in
        ((λ k h. rw none refl), refl, refl)
    fields_bulk (part o e s ps) n end is sized p q inside =
        let past = numbers_end n (o + e.size) ps is.2 in
        let first = bulk s e.size is.1 sized.0 (p + o) (q + o) (omega (arith, inside, past)) in
        let rest = fields_bulk ps n (o + e.size) is.2 sized.1 p q inside in
        let sum : n - end ≡ e.size + (n - (o + e.size)) = omega (arith, is.0, past) in
        let runs = two_runs c.memory small e.size (n - (o + e.size)) (p + o) (q + o) (omega (arith, inside, past)) in
        let to : q + o + e.size ≡ q + (o + e.size) = omega arith in
        let from : p + o + e.size ≡ p + (o + e.size) = omega arith in
        let joined : placed (q + o) (bytes_from c.memory (p + o) (e.size + (n - (o + e.size)))) ≡ placed (q + o) (bytes_from c.memory (p + o) e.size) ++ placed (q + (o + e.size)) (bytes_from c.memory (p + (o + e.size)) (n - (o + e.size))) =
        rw (← to, ← from) runs in (
          λ k h. rw (sum, ← is.0, joined, first.0 k h, rest.0 (k + part_count (shown_to c s (p + o))) (h + handle_count (shown_to c s (p + o)))) refl,
          omega (arith, first.1, rest.1),
          omega (arith, first.2, rest.2),
        )

-- what is marked as plain bytes is numbers
marked_numbers : (h : Head) (sh : Shape) → IsMarked h sh → IsTrue h.is_bulk → IsNumbers h.size sh
marked_numbers h (leaf_shape k) marked is = marked.0 is
marked_numbers h string_shape marked is = marked.0 is
marked_numbers h (list_shape e s) marked is = absurd (marked.0 is)
marked_numbers h (fixed_list_shape e s count) marked is = marked.0.0 is
marked_numbers h (fields_shape ps) marked is = marked.0.0 is
marked_numbers h (cases_shape d o ps) marked is = absurd (marked.0 is)
marked_numbers h (handle_shape x) marked is = marked.0 is

pub row_bulk : (c : Copying) (small : (i : ℕ) → slice_index c.memory i < 256) (l : LayoutTy) → IsSound l → IsTrue l.head.is_bulk → (count p q : ℕ) → p + count * l.head.size ≤ length c.memory
    → StaysSame c.memory small (store_each (stored_by c.given l.shape) l.head.size (values_each (shown_to c l.shape) l.head.size count p)) (count * l.head.size)
    (part_count_each (values_each (shown_to c l.shape) l.head.size count p)) (handle_count_each (values_each (shown_to c l.shape) l.head.size count p)) p q
row_bulk c small l sound is count p q inside =
    each_bulk c.memory small (stored_by c.given l.shape) (shown_to c l.shape) l.head.size (bulk c small l.shape l.head.size (marked_numbers l.head l.shape sound.marked is) sound.sized) count p q inside
