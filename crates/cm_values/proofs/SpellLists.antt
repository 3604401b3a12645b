-- Lists of things that are read back.
use Rattle.std.proofs.Common.{◌≡◌, ℕ, true, false, List, [], ◌∷◌, ◌++◌, Option, Some, None, Ok, refl, sym, ap, ◌∙◌, append-nil, inl, inr}
use Rattle.std.specs.Prelude.{codes}
use Rattle.std.specs.List.{flat_map}
use Rattle.cm_values.specs.declared.kind.Kind.TheVariants as kind
use Rattle.cm_values.specs.Grammar.{first_or, Grammar, done, ◌>>=◌, passes, StepsSpell}
use Rattle.cm_values.specs.Lists.{inner_items, items, next_item, some_items}
use Rattle.cm_values.specs.Words.{belongs, is, mark, separator, this_byte}
use Rattle.cm_values.specs.Spelling.{with_commas}
use Rattle.cm_values.proofs.SpellWords.{Ends, Opens, gap_blank, gap_none, mark_blank, mark_spelled, no_blank, opens, opens_apart}

-- a mark that closes a list
pub record IsClosing (c : ℕ) : Type 0 where
  pub blank : belongs kind.Blank c ≡ false
  pub comma : is 0x2C c ≡ false
  pub same : is c c ≡ true
  pub this : this_byte c c ≡ Ok tt
  pub word : belongs kind.Word c ≡ false
  pub other : (b : ℕ) → opens b ≡ true → is c b ≡ false

pub bracket : IsClosing 0x5D
bracket = record { blank = refl; comma = refl; same = refl; this = refl; word = refl; other = λ b e. (opens_apart b e).2 }

pub brace : IsClosing 0x7D
brace = record { blank = refl; comma = refl; same = refl; this = refl; word = refl; other = λ b e. (opens_apart b e).3 }

pub parenthesis : IsClosing 0x29
parenthesis = record { blank = refl; comma = refl; same = refl; this = refl; word = refl; other = λ b e. (opens_apart b e).4 }

pub not_closed : (c : ℕ) (text : List ℕ) (next : Option ℕ) → IsClosing c → Opens text → passes (is c) (first_or text next) ≡ false
not_closed c text next k o = ap (λ (t : List ℕ). passes (is c) (first_or t next)) o.is ∙ k.other o.byte o.test

-- a thing, whatever ends it
pub record ReadsBack {A : Type 0} (g : Grammar A) (x : A) (text : List ℕ) : Type 0 where
  pub opens : Opens text
  pub spells : (next : Option ℕ) → Ends next → g.Spells x text next

abbrev pub AllBack : {A : Type 0} → Grammar A → List A → List (List ℕ) → Type 0
AllBack g [] [] = Unit {0}
AllBack g (x ∷ xs) (p ∷ ps) = ReadsBack g x p × AllBack g xs ps
AllBack g _ _ = ⊥

-- ---- things with commas between them

abbrev pub behind : List (List ℕ) → List ℕ
behind ps = flat_map (λ q. codes ", " ++ q) ps

-- what follows a thing of a list ends it
pub list_ends : (c : ℕ) (ps : List (List ℕ)) → IsClosing c → Ends (first_or (behind ps) (Some c))
list_ends c [] k = k.word
list_ends c (p ∷ ps) k = refl

none_left : {A : Type 0} (c : ℕ) (g : Grammar A) → IsClosing c → (next_item c g).Spells None [] (Some c)
none_left c g k = (tt, [], [], gap_none (Some c) k.blank, inr (k.comma, (refl, refl)), refl)

one_more : {A : Type 0} (c : ℕ) (g : Grammar A) (x : A) (p : List ℕ) (next : Option ℕ) → IsClosing c → ReadsBack g x p → Ends next → (next_item c g).Spells (Some x) (codes ", " ++ p) next
one_more c g x p next k b ends = (
  tt,
  [],
  0x2C ∷ 0x20 ∷ p,
  gap_none (Some 0x2C) refl,
  inl (
    refl,
    (
      tt,
      0x2C ∷ [],
      0x20 ∷ p,
      (0x2C, refl, refl),
      (
        tt,
        0x20 ∷ [],
        p,
        gap_blank (first_or p next) (no_blank p next b.opens),
        inr (not_closed c p next k b.opens, (x, p, [], b.spells next ends, (refl, refl), sym (append-nil p))),
        refl,
      ),
      refl,
    ),
  ),
  refl,
)

steps_spelled : {A : Type 0} (c : ℕ) (g : Grammar A) (xs : List A) (ps : List (List ℕ)) → IsClosing c → AllBack g xs ps → StepsSpell (next_item c g) xs (behind ps) (Some c)
steps_spelled c g [] [] k all = none_left c g k
steps_spelled c g [] (p ∷ ps) k all = absurd all
steps_spelled c g (x ∷ xs) [] k all = absurd all
steps_spelled c g (x ∷ xs) (p ∷ ps) k all =
    (codes ", " ++ p, behind ps, one_more c g x p (first_or (behind ps) (Some c)) k all.0 (list_ends c ps k), steps_spelled c g xs ps k all.1, refl)

pub opens_more : (p more : List ℕ) → Opens p → Opens (p ++ more)
opens_more p more o = record { byte = o.byte; rest = o.rest ++ more; is = ap (λ (z : List ℕ). z ++ more) o.is; test = o.test }

pub some_spelled : {A : Type 0} (c : ℕ) (g : Grammar A) (x : A) (xs : List A) (p : List ℕ) (ps : List (List ℕ)) → IsClosing c → AllBack g (x ∷ xs) (p ∷ ps) → (some_items c g).Spells (x ∷ xs) (p ++ behind ps) (Some c)
some_spelled c g x xs p ps k all = (
  x,
  p,
  behind ps,
  all.0.spells (first_or (behind ps) (Some c)) (list_ends c ps k),
  (xs, behind ps, [], steps_spelled c g xs ps k all.1, (refl, refl), sym (append-nil (behind ps))),
  refl,
)

pub inner_spelled : {A : Type 0} (c : ℕ) (g : Grammar A) (xs : List A) (ps : List (List ℕ)) → IsClosing c → AllBack g xs ps → (inner_items c g).Spells xs (with_commas ps) (Some c)
inner_spelled c g [] [] k all = (tt, [], [], gap_none (Some c) k.blank, inl (k.same, (refl, refl)), refl)
inner_spelled c g [] (p ∷ ps) k all = absurd all
inner_spelled c g (x ∷ xs) [] k all = absurd all
inner_spelled c g (x ∷ xs) (p ∷ ps) k all =
    let o = opens_more p (behind ps) all.0.opens in (
      tt,
      [],
      p ++ behind ps,
      gap_none (first_or (p ++ behind ps) (Some c)) (no_blank (p ++ behind ps) (Some c) o),
      inr (
        not_closed c (p ++ behind ps) (Some c) k o,
        (
          x,
          p,
          behind ps,
          all.0.spells (first_or (behind ps) (Some c)) (list_ends c ps k),
          (xs, behind ps, [], steps_spelled c g xs ps k all.1, (refl, refl), sym (append-nil (behind ps))),
          refl,
        ),
      ),
      refl,
    )

-- between two marks
pub marked_spelled : {A B : Type 0} (o c : ℕ) (g : Grammar A) (h : A → B) (x : A) (inner : List ℕ) (next : Option ℕ) → belongs kind.Blank o ≡ false → this_byte o o ≡ Ok tt → IsClosing c → g.Spells x inner (Some c) → (mark o >>= λ _. g >>= λ y. mark c >>= λ _. done (h y)).Spells (h x) (o ∷ (inner ++ c ∷ [])) next
marked_spelled o c g h x inner next blank this k s = (
  tt,
  o ∷ [],
  inner ++ c ∷ [],
  mark_spelled o (first_or (inner ++ c ∷ []) next) blank this,
  (x, inner, c ∷ [], s, (tt, c ∷ [], [], mark_spelled c next k.blank k.this, (refl, refl), refl), refl),
  refl,
)

pub items_spelled : {A : Type 0} (o c : ℕ) (g : Grammar A) (xs : List A) (ps : List (List ℕ)) (next : Option ℕ) → belongs kind.Blank o ≡ false → this_byte o o ≡ Ok tt → IsClosing c → AllBack g xs ps → (items o c g).Spells xs (o ∷ (with_commas ps ++ c ∷ [])) next
items_spelled o c g xs ps next blank this k all = marked_spelled o c (inner_items c g) (λ ys. ys) xs (with_commas ps) next blank this k (inner_spelled c g xs ps k all)

-- ---- what separates fields

pub comma_spelled : (c : ℕ) (next : Option ℕ) → passes (belongs kind.Blank) next ≡ false → (separator c).Spells tt (codes ", ") next
comma_spelled c next e = (tt, [], 0x2C ∷ 0x20 ∷ [], gap_none (Some 0x2C) refl, inl (refl, mark_blank 0x2C next refl e), refl)

pub end_spelled : (c : ℕ) → IsClosing c → (separator c).Spells tt [] (Some c)
end_spelled c k = (tt, [], [], gap_none (Some c) k.blank, inr (k.comma, inl (k.same, (refl, refl))), refl)
