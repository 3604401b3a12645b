-- Numbers put into slots in order, each where its kind fits it.
use Rattle.std.proofs.Common.{◌≡◌, ℕ, zero, suc, ◌+◌, ◌<◌, ◌≤◌, List, [], ◌∷◌, ◌++◌, length, map, refl, ap, subst, ◌∙◌, arith, get_or, slice_set}
use Rattle.std.specs.Prelude.{replicate}
use Rattle.std.proofs.lemmas.List.{get_or-set_same, length-set}
use Rattle.cm_types.specs.CoreValues.{kind_of}
use Rattle.cm_types.specs.declared.core_value.CoreKind.{CoreKind}
use Rattle.cm_types.specs.declared.core_value.CoreKind.TheVariants as kind
use Rattle.cm_types.specs.declared.core_value.CoreValue.{CoreValue}
use Rattle.cm_layout.specs.Flattening.{join, join_slots}
use Rattle.cm_abi_model.specs.Numbers.{slot_at, slot_number}
use Rattle.cm_abi_model.specs.Receives.{AreNumbers, SlotsHold, put}
use Rattle.cm_abi_model.specs.Stores.{Holds, IsBeside, Placed, poke}
use Rattle.cm_abi.specs.Kinds.{AreNumbersOf, IsNumberOf}
use Rattle.cm_abi_model.proofs.StoredOnce.{stays}

-- a number fits the kind of a slot, which is there
abbrev pub FitsAt : List CoreKind → ℕ → ℕ → Type 0
FitsAt [] j n = ⊥
FitsAt (k ∷ ks) zero n = IsNumberOf k n
FitsAt (k ∷ ks) (suc j) n = FitsAt ks j n

-- numbers are put into slots from one on and below another, in order, each where it fits
abbrev pub PutsIn : List CoreKind → ℕ → ℕ → List Placed → Type 0
PutsIn ks s e [] = s ≤ e
PutsIn ks s e (p ∷ ps) = (s ≤ p.0) × (FitsAt ks p.0 p.1 × PutsIn ks (p.0 + 1) e ps)

pub puts_lower : (ks : List CoreKind) (a s e : ℕ) (ps : List Placed) → a ≤ s → PutsIn ks s e ps → PutsIn ks a e ps
puts_lower ks a s e [] low h = omega (arith, low, h)
puts_lower ks a s e (p ∷ ps) low h = (omega (arith, low, h.0), h.1)

pub puts_upper : (ks : List CoreKind) (s e f : ℕ) (ps : List Placed) → e ≤ f → PutsIn ks s e ps → PutsIn ks s f ps
puts_upper ks s e f [] high h = omega (arith, high, h)
puts_upper ks s e f (p ∷ ps) high h = (h.0, (h.1.0, puts_upper ks (p.0 + 1) e f ps high h.1.1))

pub puts_append : (ks : List CoreKind) (s m e : ℕ) (ps qs : List Placed) → PutsIn ks s m ps → PutsIn ks m e qs → PutsIn ks s e (ps ++ qs)
puts_append ks s m e [] qs h i = puts_lower ks s m e qs h i
puts_append ks s m e (p ∷ ps) qs h i = (h.0, (h.1.0, puts_append ks (p.0 + 1) m e ps qs h.1.1 i))

-- what fits slots of these kinds fits those from one on
abbrev pub Covers : List CoreKind → ℕ → List CoreKind → Type 0
Covers ks s xs = (j n : ℕ) → FitsAt xs j n → FitsAt ks (s + j) n

fits_left : (xs ys : List CoreKind) (j n : ℕ) → FitsAt xs j n → FitsAt (xs ++ ys) j n
fits_left [] ys j n h = absurd h
fits_left (x ∷ xs) ys zero n h = h
fits_left (x ∷ xs) ys (suc j) n h = fits_left xs ys j n h

fits_right : (xs ys : List CoreKind) (j n : ℕ) → FitsAt ys j n → FitsAt (xs ++ ys) (length xs + j) n
fits_right [] ys j n h = let e : j ≡ 0 + j = omega arith in subst (λ i. FitsAt ys i n) e h
fits_right (x ∷ xs) ys j n h = let e : suc (length xs + j) ≡ length (x ∷ xs) + j = omega arith in subst (λ i. FitsAt (x ∷ (xs ++ ys)) i n) e (fits_right xs ys j n h)

fits_join_left : (x y : CoreKind) (n : ℕ) → IsNumberOf x n → IsNumberOf (join x y) n
fits_join_left kind.I32 kind.I32 n h = h
fits_join_left kind.I32 kind.I64 n h = tt {0}
fits_join_left kind.I64 y n h = h

fits_join_right : (x y : CoreKind) (n : ℕ) → IsNumberOf y n → IsNumberOf (join x y) n
fits_join_right kind.I32 y n h = h
fits_join_right kind.I64 y n h = tt {0}

joined_left : (xs ys : List CoreKind) (j n : ℕ) → FitsAt xs j n → FitsAt (join_slots xs ys) j n
joined_left [] ys j n h = absurd h
joined_left (x ∷ xs) [] j n h = h
joined_left (x ∷ xs) (y ∷ ys) zero n h = fits_join_left x y n h
joined_left (x ∷ xs) (y ∷ ys) (suc j) n h = joined_left xs ys j n h

joined_right : (xs ys : List CoreKind) (j n : ℕ) → FitsAt ys j n → FitsAt (join_slots xs ys) j n
joined_right [] ys j n h = h
joined_right (x ∷ xs) [] j n h = absurd h
joined_right (x ∷ xs) (y ∷ ys) zero n h = fits_join_right x y n h
joined_right (x ∷ xs) (y ∷ ys) (suc j) n h = joined_right xs ys j n h

pub longer_left : (xs ys : List CoreKind) → length xs ≤ length (join_slots xs ys)
longer_left [] ys = omega arith
longer_left (x ∷ xs) [] = omega arith
longer_left (x ∷ xs) (y ∷ ys) = let more = longer_left xs ys in omega (arith, more)

pub covers_all : (ks : List CoreKind) → Covers ks 0 ks
covers_all ks j n h = subst (λ i. FitsAt ks i n) (omega arith) h

pub covers_left : (ks : List CoreKind) (s : ℕ) (xs ys : List CoreKind) → Covers ks s (xs ++ ys) → Covers ks s xs
covers_left ks s xs ys c j n h = c j n (fits_left xs ys j n h)

pub covers_right : (ks : List CoreKind) (s : ℕ) (xs ys : List CoreKind) → Covers ks s (xs ++ ys) → Covers ks (s + length xs) ys
covers_right ks s xs ys c j n h = subst (λ i. FitsAt ks i n) (omega arith) (c (length xs + j) n (fits_right xs ys j n h))

pub covers_behind : (ks : List CoreKind) (s : ℕ) (x : CoreKind) (xs : List CoreKind) → Covers ks s (x ∷ xs) → Covers ks (s + 1) xs
covers_behind ks s x xs c j n h = subst (λ i. FitsAt ks i n) (omega arith) (c (suc j) n h)

pub covers_join_left : (ks : List CoreKind) (s : ℕ) (xs ys : List CoreKind) → Covers ks s (join_slots xs ys) → Covers ks s xs
covers_join_left ks s xs ys c j n h = c j n (joined_left xs ys j n h)

pub covers_join_right : (ks : List CoreKind) (s : ℕ) (xs ys : List CoreKind) → Covers ks s (join_slots xs ys) → Covers ks s ys
covers_join_right ks s xs ys c j n h = c j n (joined_right xs ys j n h)

-- one number in the first slot
pub put_one : (ks : List CoreKind) (s : ℕ) (x : CoreKind) (xs : List CoreKind) (n : ℕ) → Covers ks s (x ∷ xs) → IsNumberOf x n → PutsIn ks s (s + 1) (put s n)
put_one ks s x xs n c h = (omega arith, (subst (λ i. FitsAt ks i n) (omega arith) (c 0 n h), omega arith))

-- ---- what slots have then

fits_inside : (ks : List CoreKind) (j n : ℕ) → FitsAt ks j n → j < length ks
fits_inside [] j n h = absurd h
fits_inside (k ∷ ks) zero n h = omega arith
fits_inside (k ∷ ks) (suc j) n h = let more = fits_inside ks j n h in omega (arith, more)

beside_after : (ks : List CoreKind) (a s e : ℕ) (ps : List Placed) → a < s → PutsIn ks s e ps → IsBeside a ps
beside_after ks a s e [] low h = tt {0}
beside_after ks a s e (p ∷ ps) low h = ((λ is. absurd (omega (arith, is, low, h.0))), beside_after ks a (p.0 + 1) e ps (omega (arith, low, h.0)) h.1.1)

held : (ks : List CoreKind) (s e : ℕ) (ps : List Placed) (m : List ℕ) → length m ≡ length ks → PutsIn ks s e ps → Holds (poke ps m) ps
held ks s e [] m long h = tt {0}
held ks s e (b ∷ ps) m long h = (
  stays ps (slice_set m b.0 b.1) b.0 (beside_after ks b.0 (b.0 + 1) e ps (omega arith) h.1.1)
      ∙ get_or-set_same m b.0 b.1 0 (omega (arith, long, fits_inside ks b.0 b.1 h.1.0)),
  held ks (b.0 + 1) e ps (slice_set m b.0 b.1) (length-set m b.0 b.1 ∙ long) h.1.1,
)

fit_set : (ks : List CoreKind) (ns : List ℕ) (j n : ℕ) → AreNumbersOf ks ns → FitsAt ks j n → AreNumbersOf ks (slice_set ns j n)
fit_set [] ns j n all h = absurd h
fit_set (k ∷ ks) [] j n all h = absurd all
fit_set (k ∷ ks) (m ∷ ns) zero n all h = (h, all.1)
fit_set (k ∷ ks) (m ∷ ns) (suc j) n all h = (all.0, fit_set ks ns j n all.1 h)

pub poked_fit : (ks : List CoreKind) (s e : ℕ) (ps : List Placed) (ns : List ℕ) → AreNumbersOf ks ns → PutsIn ks s e ps → AreNumbersOf ks (poke ps ns)
poked_fit ks s e [] ns all h = all
poked_fit ks s e (p ∷ ps) ns all h = poked_fit ks (p.0 + 1) e ps (slice_set ns p.0 p.1) (fit_set ks ns p.0 p.1 all h.1.0) h.1.1

zero_fits : (k : CoreKind) → IsNumberOf k 0
zero_fits kind.I32 = omega arith
zero_fits kind.I64 = tt {0}

pub zeros_fit : (ks : List CoreKind) → AreNumbersOf ks (replicate (length ks) 0)
zeros_fit [] = tt {0}
zeros_fit (k ∷ ks) = (zero_fits k, zeros_fit ks)

zero_at : (n k : ℕ) → ◌≡◌ {A = ℕ} (get_or (replicate n 0) k 0) 0
zero_at zero k = refl
zero_at (suc n) zero = refl
zero_at (suc n) (suc k) = zero_at n k

pub zeros_length : (n : ℕ) → length {A = ℕ} (replicate n 0) ≡ n
zeros_length zero = refl
zeros_length (suc n) = ap suc (zeros_length n)

-- ---- core values with these numbers

seen_at : (slots : List CoreValue) (k : ℕ) → slot_at slots k ≡ get_or (map slot_number slots) k 0
seen_at [] k = refl
seen_at (x ∷ slots) zero = refl
seen_at (x ∷ slots) (suc k) = seen_at slots k

slots_hold : (slots : List CoreValue) (ns : List ℕ) (ps : List Placed) → map slot_number slots ≡ ns → Holds ns ps → SlotsHold slots ps
slots_hold slots ns [] is h = tt {0}
slots_hold slots ns (p ∷ ps) is h = (seen_at slots p.0 ∙ (ap (λ ms. get_or ms p.0 0) is ∙ h.0), slots_hold slots ns ps is h.1)

pub are_numbers : (ks : List CoreKind) (e : ℕ) (ps : List Placed) (slots : List CoreValue) → PutsIn ks 0 e ps → map kind_of slots ≡ ks
    → map slot_number slots ≡ poke ps (replicate (length ks) 0) → AreNumbers ks slots ps
are_numbers ks e ps slots puts kinds numbers =
    record {
      of_kinds = kinds;
      numbers = slots_hold slots (poke ps (replicate (length ks) 0)) ps numbers (held ks 0 e ps (replicate (length ks) 0) (zeros_length (length ks)) puts);
      others = λ k beside. seen_at slots k ∙ (ap (λ ms. get_or ms k 0) numbers ∙ (stays ps (replicate (length ks) 0) k beside ∙ zero_at (length ks) k));
    }
