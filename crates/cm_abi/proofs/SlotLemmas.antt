-- Core values from numbers, one after another.
use Rattle.std.proofs.Common.{◌≡◌, ℕ, zero, suc, ◌+◌, ◌<◌, ◌≤◌, List, [], ◌∷◌, ◌++◌, drop, length, map, refl, sym, ap, ◌∙◌, arith, get_or, drop-cons, add-one}
use Rattle.std.proofs.lemmas.List.{append_assoc, append-nil, map-append}
use Rattle.cm_types.specs.declared.core_value.CoreKind.{CoreKind}
use Rattle.cm_abi.specs.Kinds.{AreNumbersOf, IsNumberOf}
use Rattle.cm_lemmas.proofs.Lists.{drop_past}

pub record NextFits (ks : List CoreKind) (ns : List ℕ) (i : ℕ) (k : CoreKind) : Type 0 where
  pub there : i < length ns
  pub fits : (d : ℕ) → IsNumberOf k (get_or ns i d)
  pub rest : AreNumbersOf (drop (i + 1) ks) (drop (i + 1) ns)

pub next_fits : (ks : List CoreKind) (ns : List ℕ) (i : ℕ) (d : CoreKind) → i < length ks → AreNumbersOf (drop i ks) (drop i ns) → NextFits ks ns i (get_or ks i d)
next_fits [] ns i d lt all = absurd (omega (arith, lt))
next_fits (k ∷ ks) [] zero d lt all = absurd all
next_fits (k ∷ ks) [] (suc i) d lt all = absurd (no_more ks i (omega (arith, lt)) all)
  where
    no_more : (xs : List CoreKind) (j : ℕ) → j < length xs → AreNumbersOf (drop j xs) [] → ⊥
    no_more [] j less h = absurd (omega (arith, less))
    no_more (x ∷ xs) zero less h = h
    no_more (x ∷ xs) (suc j) less h = no_more xs j (omega (arith, less)) h
next_fits (k ∷ ks) (n ∷ ns) zero d lt all = record { there = omega arith; fits = λ e. all.0; rest = all.1 }
next_fits (k ∷ ks) (n ∷ ns) (suc i) d lt all =
    let more = next_fits ks ns i d (omega (arith, lt)) all in
    let further : suc i + 1 ≡ suc (i + 1) = omega arith in
    record { there = omega (arith, more.there); fits = λ e. more.fits e; rest = rw further more.rest }

-- one more of some is there
pub one_more : {X Y : Type 0} (f : Y → X) (all : List X) (done behind : List Y) (i : ℕ) (y : Y) (d : X) → i < length all → f y ≡ get_or all i d
    → behind ≡ done ++ y ∷ [] → map f done ++ drop i all ≡ all → map f behind ++ drop (i + 1) all ≡ all
one_more f all done behind i y d lt is behind_is so =
    let split : drop i all ≡ f y ∷ drop (i + 1) all = rw (add-one, is) (drop-cons all i d lt) in
    rw (behind_is, map-append f done (y ∷ [])) (append_assoc (map f done) (f y ∷ []) (drop (i + 1) all) ∙ (ap (λ xs. map f done ++ xs) (sym split) ∙ so))

-- all of them are there
pub all_there : {X Y : Type 0} (f : Y → X) (all : List X) (done : List Y) (i : ℕ) → length all ≤ i → map f done ++ drop i all ≡ all → map f done ≡ all
all_there f all done i le so = sym (append-nil (map f done)) ∙ (ap (λ xs. map f done ++ xs) (sym (drop_past all i le)) ∙ so)

pub as_long : (ks : List CoreKind) (ns : List ℕ) → AreNumbersOf ks ns → length ns ≡ length ks
as_long [] [] h = refl
as_long [] (n ∷ ns) h = absurd h
as_long (k ∷ ks) [] h = absurd h
as_long (k ∷ ks) (n ∷ ns) h = ap suc (as_long ks ns h.1)
