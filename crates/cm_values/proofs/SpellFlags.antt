-- The labels of flags are read back.
use Rattle.std.proofs.Common.{◌≡◌, ℕ, suc, ◌+◌, ◌^◌, ◌<◌, ◌≤◌, ◌==◌, max, Bool, false, if◌then◌else◌, List, [], ◌∷◌, ◌++◌, length, Option, Some, refl, sym, ap, subst, ◌∙◌, append-nil, arith, inl, inr}
use Rattle.std.specs.Prelude.{codes}
use Rattle.std.specs.Int.{bit_at}
use Rattle.std.specs.Int.RustNames.{bit_or}
use Rattle.std.proofs.lemmas.Bool.{cases_Bool, cases_eq, cases_lt, eqb-true, le-leb}
use Rattle.std.proofs.lemmas.Bool.Decides.{nat_tests}
use Rattle.std.proofs.lemmas.Nat.Bits.{bit_at_above, bit_at-lt, bit_at_or, bit_at-pow_other, bit_at-pow_same, bit_at-zero, same_from_bits}
use Rattle.cm_types.specs.Types.{flags}
use Rattle.cm_types.specs.Values.{Val, flag_set}
use Rattle.cm_values.specs.SpelledNames.{name_spelling}
use Rattle.cm_values.specs.Spelling.{set_labels, spelling, with_commas}
use Rattle.cm_values.specs.Grammar.{first_or, Grammar, ◌>>=◌, done}
use Rattle.cm_values.specs.Values.{flags_on, inner_flags, value, where_so}
use Rattle.cm_values.specs.Words.{known, mark}
use Rattle.cm_values.specs.Premises.{AreNames}
use Rattle.cm_values.proofs.SpellLists.{AllBack, ReadsBack, behind, brace, marked_spelled, not_closed, opens_more, some_spelled}
use Rattle.cm_values.proofs.SpellNames.{At, label_back, label_opens, place_at, wordy_at}
use Rattle.cm_values.proofs.SpellWords.{gap_none, known_spelled, no_blank}

-- the places of the labels that are set, from this one on
abbrev pub places : ℕ → List (List ℕ) → ℕ → List ℕ
places i [] n = []
places i (l ∷ ls) n = if bit_at n i == 1 then i ∷ places (i + 1) ls n else places (i + 1) ls n

-- ---- the labels

labels_back : (all : List (List ℕ)) (i : ℕ) (ls : List (List ℕ)) (n : ℕ) → AreNames all → ((j : ℕ) (l : List ℕ) → At ls j l → At all (i + j) l) → AllBack (known all) (places i ls n) (set_labels i ls n)
labels_back all i [] n are at = tt
labels_back all i (l ∷ ls) n are at =
    let same : i + 0 ≡ i = omega arith in
    let here : At all i l = subst (λ (k : ℕ). At all k l) same (at 0 l refl) in
    let ok = wordy_at all i l are here in
    let further : (j : ℕ) (m : List ℕ) → At ls j m → At all (i + 1 + j) m = λ j m a. (let more : i + suc j ≡ i + 1 + j = omega arith in subst (λ (k : ℕ). At all k m) more (at (suc j) m a)) in
    let rest = labels_back all (i + 1) ls n are further in
    elim (cases_Bool (bit_at n i == 1)) [
      | inl e ↦ rw e (record { opens = label_opens l ok; spells = λ next ends. known_spelled all l (name_spelling l) i next (label_opens l ok) (label_back l next ok ends) (place_at all i l are here) }, rest)
      | inr e ↦ rw e rest
    ]

-- ---- their number

-- the bit at j of the numbers 2 ^ p together
abbrev among : ℕ → List ℕ → ℕ
among j [] = 0
among j (p ∷ ps) = max (bit_at (2 ^ p) j) (among j ps)

bits_on : (m : ℕ) (ps : List ℕ) (j : ℕ) → bit_at (flags_on m ps) j ≡ max (bit_at m j) (among j ps)
bits_on m [] j = omega arith
bits_on m (p ∷ ps) j = omega (arith, bits_on (bit_or m (2 ^ p)) ps j, bit_at_or m (2 ^ p) j)

none_before : (i : ℕ) (ls : List (List ℕ)) (n j : ℕ) → j < i → among j (places i ls n) ≡ 0
none_before i [] n j lt = refl
none_before i (l ∷ ls) n j lt =
    let rest = none_before (i + 1) ls n j (omega arith) in
    let other : bit_at (2 ^ i) j ≡ 0 = bit_at-pow_other i j (λ e. omega arith) in
    elim (cases_Bool (bit_at n i == 1)) [ inl e ↦ rw e (omega (arith, rest, other)) | inr e ↦ rw e rest ]

none_behind : (i : ℕ) (ls : List (List ℕ)) (n j : ℕ) → i + length ls ≤ j → among j (places i ls n) ≡ 0
none_behind i [] n j le = refl
none_behind i (l ∷ ls) n j le =
    let rest = none_behind (i + 1) ls n j (omega arith) in
    let other : bit_at (2 ^ i) j ≡ 0 = bit_at-pow_other i j (λ e. omega arith) in
    elim (cases_Bool (bit_at n i == 1)) [ inl e ↦ rw e (omega (arith, rest, other)) | inr e ↦ rw e rest ]

bit_is_not : (n i : ℕ) → (bit_at n i == 1) ≡ false → bit_at n i ≡ 0
bit_is_not n i e = grind (arith, nat_tests, bit_at-lt n i)

inside : (i : ℕ) (ls : List (List ℕ)) (n j : ℕ) → i ≤ j → j < i + length ls → among j (places i ls n) ≡ bit_at n j
inside i [] n j le lt = absurd (omega arith)
inside i (l ∷ ls) n j le lt = elim (cases_eq j i) [
  | inl same ↦
      let none : among j (places (i + 1) ls n) ≡ 0 = none_before (i + 1) ls n j (omega arith) in
      elim (cases_Bool (bit_at n i == 1)) [
        | inl e ↦
            let one : bit_at n j ≡ 1 = ap (bit_at n) same ∙ eqb-true _ _ e in
            let own : bit_at (2 ^ i) j ≡ 1 = ap (bit_at (2 ^ i)) same ∙ bit_at-pow_same i in
            rw e (omega (arith, none, one, own))
        | inr e ↦ rw e (none ∙ sym (ap (bit_at n) same ∙ bit_is_not n i e))
      ]
  | inr differ ↦
      let rest : among j (places (i + 1) ls n) ≡ bit_at n j = inside (i + 1) ls n j (omega arith) (omega arith) in
      let other : bit_at (2 ^ i) j ≡ 0 = bit_at-pow_other i j differ in
      elim (cases_Bool (bit_at n i == 1)) [ inl e ↦ rw e (omega (arith, rest, other)) | inr e ↦ rw e rest ]
]

pub number_again : (ls : List (List ℕ)) (n : ℕ) → n < 2 ^ length ls → flags_on 0 (places 0 ls n) ≡ n
number_again ls n small = same_from_bits (flags_on 0 (places 0 ls n)) n (λ j.
    elim (cases_lt j (length ls)) [
      | inl lt ↦ omega (arith, bits_on 0 (places 0 ls n) j, bit_at-zero j, inside 0 ls n j (omega arith) (omega arith))
      | inr le ↦ omega (arith, bits_on 0 (places 0 ls n) j, bit_at-zero j, none_behind 0 ls n j (omega arith), bit_at_above n (length ls) j small le)
    ])

-- ---- flags

inner_back : (ls : List (List ℕ)) (is : List ℕ) (ps : List (List ℕ)) → AllBack (known ls) is ps → (inner_flags ls).Spells (flags_on 0 is) (with_commas ps) (Some 0x7D)
inner_back ls [] [] all = (tt, [], [], gap_none (Some 0x7D) refl, inl (refl, (refl, refl)), refl)
inner_back ls [] (p ∷ ps) all = absurd all
inner_back ls (i ∷ is) [] all = absurd all
inner_back ls (i ∷ is) (p ∷ ps) all =
    let o = opens_more p (behind ps) all.0.opens in (
      tt,
      [],
      p ++ behind ps,
      gap_none (first_or (p ++ behind ps) (Some 0x7D)) (no_blank (p ++ behind ps) (Some 0x7D) o),
      inr (
        not_closed 0x7D (p ++ behind ps) (Some 0x7D) brace o,
        (i ∷ is, p ++ behind ps, [], some_spelled 0x7D (known ls) i is p ps brace all, (refl, refl), sym (append-nil (p ++ behind ps))),
      ),
      refl,
    )

-- flags between their marks
abbrev pub between : List (List ℕ) → Grammar Val
between ls = mark 0x7B >>= λ _. inner_flags ls >>= λ n. mark 0x7D >>= λ _. done (flag_set n)

own_places : (ls : List (List ℕ)) (j : ℕ) (l : List ℕ) → At ls j l → At ls (0 + j) l
own_places ls j l at = let same : j ≡ 0 + j = omega arith in subst (λ (k : ℕ). At ls k l) same at

pub flags_back : (ls : List (List ℕ)) (n : ℕ) → n < 2 ^ length ls → AreNames ls → length ls ≤ 32 → ReadsBack (value (flags ls)) (flag_set n) (spelling (flags ls) (flag_set n))
flags_back ls n small are few =
    let all = labels_back ls 0 ls n are (own_places ls) in
    let s = λ (next : Option ℕ). marked_spelled 0x7B 0x7D (inner_flags ls) (λ (m : ℕ). flag_set m) (flags_on 0 (places 0 ls n)) (with_commas (set_labels 0 ls n)) next refl refl brace (inner_back ls (places 0 ls n) (set_labels 0 ls n) all) in
    record {
      opens = record { byte = 0x7B; rest = with_commas (set_labels 0 ls n) ++ codes "}"; is = refl; test = refl };
      spells = λ next ends. subst (λ (b : Bool). (where_so b (between ls)).Spells (flag_set n) (spelling (flags ls) (flag_set n)) next) (sym (le-leb (length ls) 32 few))
          (subst (λ (m : ℕ). (between ls).Spells (flag_set m) (spelling (flags ls) (flag_set n)) next) (number_again ls n small) (s next));
    }
