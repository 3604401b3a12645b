-- The test for labels agrees with the grammar, and what a label has no byte of.
use Rattle.std.proofs.Common.{◌≡◌, ◌≢◌, ℕ, zero, suc, ◌<◌, Bool, true, false, ◌||◌, ◌==◌, IsTrue, List, [], ◌∷◌, ◌++◌, length, None, refl, sym, ap, ◌∙◌, subst, inl, inr, arith}
use Rattle.std.specs.List.{list_all, slice_split, join_with_byte, AllByRecursion}
use Rattle.std.specs.Char.{is_ascii_lowercase, is_ascii_uppercase, is_ascii_digit}
use Rattle.std.proofs.lemmas.Bool.{and_parts, and_from, or_cases, cases_Bool, true≢false}
use Rattle.std.proofs.lemmas.Bool.Decides.{nat_tests}
use Rattle.std.proofs.lemmas.List.Elements.{All-from_recursion}
use Rattle.std.proofs.lemmas.List.Splits.{slice_split_none, slice_split_at, length-slice_split, join_with_byte-slice_split}
use Rattle.cm_types.specs.Names.{IsLabel, is_label, is_fragment, is_in_word, is_in_acronym, label_fault}
use Rattle.cm_types.proofs.Cuts.{Lacks}

-- a byte that may stand in a fragment
abbrev is_fragment_byte : ℕ → Bool
is_fragment_byte b = is_ascii_lowercase b || is_ascii_uppercase b || is_ascii_digit b

word_byte : (b : ℕ) → is_in_word b ≡ true → is_fragment_byte b ≡ true
word_byte b h = grind (arith, nat_tests)

acronym_byte : (b : ℕ) → is_in_acronym b ≡ true → is_fragment_byte b ≡ true
acronym_byte b h = grind (arith, nat_tests)

word_bytes : (bs : List ℕ) → list_all is_in_word bs ≡ true → list_all is_fragment_byte bs ≡ true
word_bytes [] h = refl
word_bytes (b ∷ bs) h = let p = and_parts _ _ h in and_from _ _ (word_byte b p.0) (word_bytes bs p.1)

acronym_bytes : (bs : List ℕ) → list_all is_in_acronym bs ≡ true → list_all is_fragment_byte bs ≡ true
acronym_bytes [] h = refl
acronym_bytes (b ∷ bs) h = let p = and_parts _ _ h in and_from _ _ (acronym_byte b p.0) (acronym_bytes bs p.1)

lower_byte : (b : ℕ) → is_ascii_lowercase b ≡ true → is_fragment_byte b ≡ true
lower_byte b h = grind (arith, nat_tests)

upper_byte : (b : ℕ) → is_ascii_uppercase b ≡ true → is_fragment_byte b ≡ true
upper_byte b h = grind (arith, nat_tests)

fragment_bytes : (f : List ℕ) → is_fragment f ≡ true → list_all is_fragment_byte f ≡ true
fragment_bytes [] h = refl
fragment_bytes (b ∷ bs) h = elim (or_cases _ _ h) [
  | inl w ↦ let p = and_parts _ _ w in and_from _ _ (lower_byte b p.0) (word_bytes bs p.1)
  | inr a ↦ let p = and_parts _ _ a in and_from _ _ (upper_byte b p.0) (acronym_bytes bs p.1)
]

no_hyphen : (b : ℕ) → is_fragment_byte b ≡ true → (b == 45) ≡ false
no_hyphen b h = grind (arith, nat_tests)

no_hyphens : (bs : List ℕ) → list_all is_fragment_byte bs ≡ true → AllByRecursion (λ b. (b == 45) ≡ false) bs
no_hyphens [] h = tt
no_hyphens (b ∷ bs) h = let p = and_parts _ _ h in (no_hyphen b p.0, no_hyphens bs p.1)

-- the fragments joined by hyphens are cut at the hyphens again
joined_passes : (fs : List (List ℕ)) → 0 < length fs → AllByRecursion (λ f. IsTrue (is_fragment f)) fs → is_label (join_with_byte 45 fs) ≡ true
joined_passes [] some each = absurd (omega arith)
joined_passes (f ∷ []) some each =
    rw (slice_split_none (λ b. b == 45) f (All-from_recursion _ f (no_hyphens f (fragment_bytes f each.0)))) (and_from _ _ each.0 refl)
joined_passes (f ∷ g ∷ fs) some each =
    rw (slice_split_at (λ b. b == 45) f 45 (join_with_byte 45 (g ∷ fs)) (All-from_recursion _ f (no_hyphens f (fragment_bytes f each.0))) refl)
    (and_from _ _ each.0 (joined_passes (g ∷ fs) (omega arith) each.1))

pub label_passes : (text : List ℕ) → IsLabel text → is_label text ≡ true
label_passes text l = ap is_label (sym l.joined) ∙ joined_passes l.fragments l.some l.each

all_fragments : (fs : List (List ℕ)) → list_all is_fragment fs ≡ true → AllByRecursion (λ f. IsTrue (is_fragment f)) fs
all_fragments [] h = tt
all_fragments (f ∷ fs) h = let p = and_parts _ _ h in (p.0, all_fragments fs p.1)

pub label_is : (text : List ℕ) → is_label text ≡ true → IsLabel text
label_is text h = record {
  fragments = slice_split (λ b. b == 45) text;
  some = omega (arith, length-slice_split (λ b. b == 45) text);
  each = all_fragments (slice_split (λ b. b == 45) text) h;
  joined = join_with_byte-slice_split 45 text;
}

-- a label's first byte is a letter, so it has one
pub label_fine : (text : List ℕ) → is_label text ≡ true → label_fault text ≡ None
label_fine [] h = absurd (true≢false (sym h))
label_fine (b ∷ bs) h = rw h refl

pub fine_label : (text : List ℕ) → label_fault text ≡ None → is_label text ≡ true
fine_label [] h = cc
fine_label (b ∷ bs) h = elim (cases_Bool (is_label (b ∷ bs))) [ inl y ↦ y | inr n ↦ let e = rw n at h in cc ]

-- ---- the bytes of a label

lacks_nil : (c : ℕ) → Lacks c []
lacks_nil c i lt = absurd (omega arith)

pub lacks_cons : (c b : ℕ) (bs : List ℕ) → b ≢ c → Lacks c bs → Lacks c (b ∷ bs)
lacks_cons c b bs n h zero lt = n
lacks_cons c b bs n h (suc i) lt = h i (omega arith)

pub lacks_append : (c : ℕ) (xs ys : List ℕ) → Lacks c xs → Lacks c ys → Lacks c (xs ++ ys)
lacks_append c [] ys h k = k
lacks_append c (x ∷ xs) ys h k = lacks_cons c x (xs ++ ys) (h 0 (omega arith)) (lacks_append c xs ys (λ i lt. h (suc i) (omega arith)) k)

differs : (b c : ℕ) → is_fragment_byte c ≡ false → is_fragment_byte b ≡ true → b ≢ c
differs b c h k e = true≢false (sym k ∙ ap is_fragment_byte e ∙ h)

fragment_lacks : (c : ℕ) (bs : List ℕ) → is_fragment_byte c ≡ false → list_all is_fragment_byte bs ≡ true → Lacks c bs
fragment_lacks c [] h k = lacks_nil c
fragment_lacks c (b ∷ bs) h k = let p = and_parts _ _ k in lacks_cons c b bs (differs b c h p.0) (fragment_lacks c bs h p.1)

joined_lacks : (c : ℕ) (fs : List (List ℕ)) → is_fragment_byte c ≡ false → 45 ≢ c → AllByRecursion (λ f. IsTrue (is_fragment f)) fs → Lacks c (join_with_byte 45 fs)
joined_lacks c [] h n each = lacks_nil c
joined_lacks c (f ∷ []) h n each = fragment_lacks c f h (fragment_bytes f each.0)
joined_lacks c (f ∷ g ∷ fs) h n each =
    lacks_append c f (45 ∷ join_with_byte 45 (g ∷ fs)) (fragment_lacks c f h (fragment_bytes f each.0))
    (lacks_cons c 45 (join_with_byte 45 (g ∷ fs)) n (joined_lacks c (g ∷ fs) h n each.1))

-- a label has no byte that is no letter, digit or hyphen
pub label_lacks : (c : ℕ) (text : List ℕ) → is_fragment_byte c ≡ false → 45 ≢ c → IsLabel text → Lacks c text
label_lacks c text h n l = let P : List ℕ → Type 0 = Lacks c in subst P l.joined (joined_lacks c l.fragments h n l.each)
