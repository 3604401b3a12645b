-- Texts in an encoding of which no more is known than that a spelling has some byte and that bytes begin
-- with the spelling of one scalar at most.
use Rattle.std.proofs.Common.{◌≡◌, ℕ, ◌+◌, ◌-◌, ◌<◌, List, [], ◌∷◌, ◌++◌, length, take, drop, refl, sym, ap, subst, ◌∙◌, arith, append_assoc, length-append, length-take}
use Rattle.std.proofs.lemmas.List.{append-nil, append_cancel_left, take-append-drop, take_at, take_all}
use Rattle.std.proofs.lemmas.List.Concat.{flat_map-append}
use Rattle.std.proofs.Math.Seq.{take-append-add}
use Rattle.std.specs.List.{AllByRecursion, flat_map}
use Rattle.cm_text.specs.Text.{IsText, IsTextUpTo}
use Rattle.cm_lemmas.proofs.Lists.{all_numbers_joined}

pub record Laws (has : ℕ → Type 0) (spell : ℕ → List ℕ) : Type 0 where
  pub some_byte : (c : ℕ) → has c → 0 < length (spell c)
  pub one_spelling : (c d : ℕ) (x y : List ℕ) → has c → has d → spell c ++ x ≡ spell d ++ y → c ≡ d

-- what is left of a text after some of its scalars
pub record Left (has : ℕ → Type 0) (spell : ℕ → List ℕ) (all done : List ℕ) (bytes : List ℕ) : Type 0 where
  pub rest : List ℕ
  pub split : all ≡ done ++ rest
  pub text : IsText has spell rest bytes

module _ (has : ℕ → Type 0) (spell : ℕ → List ℕ) (laws : Laws has spell) where
  -- a text of no bytes has no scalars
  pub no_scalar : (cs : List ℕ) → AllByRecursion has cs → length (flat_map spell cs) ≡ 0 → cs ≡ []
  no_scalar [] all none = refl
  no_scalar (c ∷ cs) all none =
      absurd (omega (arith, laws.some_byte c all.0, length-append (spell c) (flat_map spell cs)))

  -- a text that begins with a text goes on with one
  pub goes_on : (done cs xs : List ℕ) → AllByRecursion has done → AllByRecursion has cs → flat_map spell done ++ xs ≡ flat_map spell cs
      → Left has spell cs done xs
  goes_on [] cs xs before all same = record { rest = cs; split = refl; text = record { all = all; is = sym same } }
  goes_on (d ∷ done) [] xs before all same =
      absurd (omega (arith, laws.some_byte d before.0, length-append (spell d) (flat_map spell done), length-append (flat_map spell (d ∷ done)) xs, ap length same))
  goes_on (d ∷ done) (c ∷ cs) xs before all same =
      let joined : spell d ++ (flat_map spell done ++ xs) ≡ spell c ++ flat_map spell cs = sym (append_assoc (spell d) (flat_map spell done) xs) ∙ same in
      let one : d ≡ c = laws.one_spelling d c (flat_map spell done ++ xs) (flat_map spell cs) before.0 all.0 joined in
      let rest_is : flat_map spell done ++ xs ≡ flat_map spell cs =
      append_cancel_left (spell d) (flat_map spell done ++ xs) (flat_map spell cs) (joined ∙ ap (λ e. spell e ++ flat_map spell cs) (sym one)) in
      let after = goes_on done cs xs before.1 all.1 rest_is in
      record { rest = after.rest; split = ap (λ e. e ∷ cs) (sym one) ∙ ap (λ es. d ∷ es) after.split; text = after.text }

  -- a text has one list of scalars
  pub one_text : (cs ds bytes : List ℕ) → IsText has spell cs bytes → IsText has spell ds bytes → cs ≡ ds
  one_text cs ds bytes p q =
      let after = goes_on cs ds [] p.all q.all (append-nil (flat_map spell cs) ∙ p.is ∙ sym q.is) in
      let none : after.rest ≡ [] = no_scalar after.rest after.text.all (ap length after.text.is) in
      sym (after.split ∙ ap (λ es. cs ++ es) none ∙ append-nil cs)

  -- a text and one scalar more
  pub one_more : (done : List ℕ) (c : ℕ) (rest : List ℕ) → flat_map spell done ++ (spell c ++ rest) ≡ flat_map spell (done ++ c ∷ []) ++ rest
  one_more done c rest =
      sym (append_assoc (flat_map spell done) (spell c) rest)
      ∙ ap (λ xs. xs ++ rest) (sym (flat_map-append spell done (c ∷ []) ∙ ap (λ xs. flat_map spell done ++ xs) (append-nil (spell c))))

  -- a text ends where no scalar begins
  pub ends_at : (done bytes xs : List ℕ) (n : ℕ) → AllByRecursion has done → bytes ≡ flat_map spell done ++ xs → 0 < length xs → n + length xs ≡ length bytes
      → ((c : ℕ) (rest : List ℕ) → has c → xs ≡ spell c ++ rest → ⊥) → IsTextUpTo has spell bytes n
  ends_at done bytes xs n before split more at none =
      let front = flat_map spell done in
      let long : length front ≡ n = omega (arith, length-append front xs, ap length split) in
      record {
        short = omega arith;
        front = (done, record { all = before; is = sym (ap (take n) split ∙ take_at front xs n long) });
        longest = λ m cs past text.
            let cut : take m bytes ≡ front ++ take (m - n) xs =
            ap (take m) split ∙ ap (λ k. take k (front ++ xs)) {x = m} {y = length front + (m - n)} (omega arith) ∙ take-append-add front xs (m - n) in
            let after = goes_on done cs (take (m - n) xs) before text.all (sym cut ∙ sym text.is) in
            begins xs (m - n) after.rest (omega arith) more after.text none;
      }
    where
      begins : (xs : List ℕ) (k : ℕ) (cs : List ℕ) → 0 < k → 0 < length xs → IsText has spell cs (take k xs) → ((c : ℕ) (rest : List ℕ) → has c → xs ≡ spell c ++ rest → ⊥) → ⊥
      begins xs k [] some more text none = omega (arith, ap length text.is, length-take k xs)
      begins xs k (c ∷ cs) some more text none =
          none c (flat_map spell cs ++ drop k xs) text.all.0
          (sym (take-append-drop k xs) ∙ ap (λ ys. ys ++ drop k xs) (sym text.is) ∙ append_assoc (spell c) (flat_map spell cs) (drop k xs))

  -- where a text goes up to a place, the bytes are none
  pub not_text : (bytes cs : List ℕ) (n : ℕ) → IsTextUpTo has spell bytes n → IsText has spell cs bytes → ⊥
  not_text bytes cs n up text = up.longest (length bytes) cs up.short (subst (IsText has spell cs) (sym (take_all (length bytes) bytes (omega arith))) text)

-- some bytes were read as scalars, and the rest is left
pub record Read (has : ℕ → Type 0) (spell : ℕ → List ℕ) (done bytes rest : List ℕ) : Type 0 where
  pub all : AllByRecursion has done
  pub split : bytes ≡ flat_map spell done ++ rest

abbrev pub ReadSome : (ℕ → Type 0) → (ℕ → List ℕ) → List ℕ → List ℕ → Type 0
ReadSome has spell bytes rest = (done : List ℕ) × Read has spell done bytes rest

-- one scalar more, and some more after it
pub read_more : (has : ℕ → Type 0) (spell : ℕ → List ℕ) (done bytes rest : List ℕ) (c : ℕ) (after cs left : List ℕ) → Read has spell done bytes rest → has c
    → rest ≡ spell c ++ after → AllByRecursion has cs → after ≡ flat_map spell cs ++ left → Read has spell (done ++ c ∷ cs) bytes left
read_more has spell done bytes rest c after cs left so_far is_c first all more = record {
  all = all_numbers_joined has done (c ∷ cs) so_far.all (is_c, all);
  split = so_far.split
      ∙ ap (λ ys. flat_map spell done ++ ys) (first ∙ ap (λ ys. spell c ++ ys) more ∙ sym (append_assoc (spell c) (flat_map spell cs) left))
      ∙ sym (append_assoc (flat_map spell done) (flat_map spell (c ∷ cs)) left)
      ∙ ap (λ ys. ys ++ left) (sym (flat_map-append spell done (c ∷ cs)));
}
