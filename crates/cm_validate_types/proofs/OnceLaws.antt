-- Each place is copied once.
use Rattle.std.proofs.Common.{inl, inr, ◌≡◌, ℕ, zero, suc, ◌+◌, ◌<◌, ◌≤◌, true, false, List, [], ◌∷◌, ◌++◌, length, map, Option, Some, None, refl, sym, ap, subst, ◌∙◌, arith, append-nil, append_assoc, Result, Ok, Err, OnOk}
use Rattle.std.specs.Prelude.{is_some}
use Rattle.std.specs.List.{AllByRecursion}
use Rattle.std.specs.Ordering.{is_eq, nat_cmp}
use Rattle.std.specs.Cmp.{unsigned_tied}
use Rattle.std.proofs.lemmas.Bool.{cases_eq, ne_eqb}
use Rattle.std.proofs.lemmas.List.{map-append}
use Rattle.cm_types.specs.Types.{FuncTy, Ty}
use Rattle.cm_types_arena.specs.TypeDefs.{type_at}
use Rattle.cm_types_arena.specs.Replaced.{Standing, replaced}
use Rattle.cm_validate_types.specs.Copies.{AddsOnce, AreCopies, AreDistinct, BeginsWith, CopiesOnce, IsCopy}
use Rattle.cm_validate_types.proofs.CopyLaws.{at_front}
use Rattle.cm_lemmas.proofs.Lists.{all_numbers_joined, all_so}

none_is : (o : Option ℕ) → o ≡ None → is_some o ≡ true → ⊥
none_is None e h = cc
none_is (Some n) e h = cc

-- what a table has differs from what it has not
apart : (t : ℕ → Option ℕ) (x : ℕ) (ys : List ℕ) → is_some (t x) ≡ true → AllByRecursion (λ p. t p ≡ None) ys → AllByRecursion (λ q. x ≡ q → ⊥) ys
apart t x ys h fresh = all_so (λ p. t p ≡ None) (λ q. x ≡ q → ⊥) (λ q none e. none_is (t x) (ap t e ∙ none) h) ys fresh

distinct_both : (t : ℕ → Option ℕ) (xs ys : List ℕ) → AreDistinct xs → AreDistinct ys → AllByRecursion (λ p. is_some (t p) ≡ true) xs → AllByRecursion (λ p. t p ≡ None) ys → AreDistinct (xs ++ ys)
distinct_both t [] ys d e known fresh = e
distinct_both t (x ∷ xs) ys d e known fresh =
    (all_numbers_joined (λ q. x ≡ q → ⊥) xs ys d.0 (apart t x ys known.0 fresh), distinct_both t xs ys d.1 e known.1 fresh)

not_there : (t u : ℕ → Option ℕ) → ((q : ℕ) → is_some (t q) ≡ true → is_some (u q) ≡ true) → (p : ℕ) → u p ≡ None → t p ≡ None
not_there t u kept p none = by_case (t p) refl
  where
    by_case : (o : Option ℕ) → t p ≡ o → o ≡ None
    by_case None e = refl
    by_case (Some n) e = absurd (none_is (u p) none (kept p (ap is_some e)))

module _ (s : Standing) where
  pub nothing_once : (types : List Ty) (t : ℕ → Option ℕ) (bound : ℕ) → CopiesOnce s types types t t bound
  nothing_once types t bound = record {
    once = record { sources = []; added = sym (append-nil types); distinct = tt; below = tt };
    fresh = tt;
    known = tt;
    kept = λ q h. h;
    above = λ q h. refl;
  }

  pub wider : (a b : List Ty) (t u : ℕ → Option ℕ) (m n : ℕ) → m ≤ n → CopiesOnce s a b t u m → CopiesOnce s a b t u n
  wider a b t u m n le x = record {
    once = record { sources = x.once.sources; added = x.once.added; distinct = x.once.distinct; below = all_so (λ p. p < m) (λ p. p < n) (λ p lt. omega (arith, lt, le)) x.once.sources x.once.below };
    fresh = x.fresh;
    known = x.known;
    kept = x.kept;
    above = λ q h. x.above q (omega (arith, h, le));
  }

  replaced_at_front : (a b : List Ty) (n : ℕ) → BeginsWith b a → n ≤ length a → (ps : List ℕ) → AllByRecursion (λ p. p < n) ps → map (λ p. replaced s (type_at b p)) ps ≡ map (λ p. replaced s (type_at a p)) ps
  replaced_at_front a b n front le [] all = refl
  replaced_at_front a b n front le (p ∷ ps) all =
      ap (λ t. replaced s t ∷ map (λ q. replaced s (type_at b q)) ps) (at_front a b p front (omega (arith, all.0, le)))
      ∙ ap (λ ts. replaced s (type_at a p) ∷ ts) (replaced_at_front a b n front le ps all.1)

  pub both_once : (a b c : List Ty) (t u v : ℕ → Option ℕ) (n : ℕ) → n ≤ length a → CopiesOnce s a b t u n → CopiesOnce s b c u v n → CopiesOnce s a c t v n
  both_once a b c t u v n le x y =
      let xs = x.once.sources in
      let ys = y.once.sources in
      record {
        once = record {
          sources = xs ++ ys;
          added = y.once.added
              ∙ ap (λ ts. b ++ ts) (replaced_at_front a b n (map (λ p. replaced s (type_at a p)) xs, x.once.added) le ys y.once.below)
              ∙ ap (λ ts. ts ++ map (λ p. replaced s (type_at a p)) ys) x.once.added
              ∙ append_assoc a (map (λ p. replaced s (type_at a p)) xs) (map (λ p. replaced s (type_at a p)) ys)
              ∙ ap (λ ts. a ++ ts) (sym (map-append (λ p. replaced s (type_at a p)) xs ys));
          distinct = distinct_both u xs ys x.once.distinct y.once.distinct x.known y.fresh;
          below = all_numbers_joined (λ p. p < n) xs ys x.once.below y.once.below;
        };
        fresh = all_numbers_joined (λ p. t p ≡ None) xs ys x.fresh (all_so (λ p. u p ≡ None) (λ p. t p ≡ None) (not_there t u x.kept) ys y.fresh);
        known = all_numbers_joined (λ p. is_some (v p) ≡ true) xs ys (all_so (λ p. is_some (u p) ≡ true) (λ p. is_some (v p) ≡ true) y.kept xs x.known) y.known;
        kept = λ q h. y.kept q (x.kept q h);
        above = λ q h. y.above q h ∙ x.above q h;
      }

  -- the last one
  one_once : (a b : List Ty) (t u : ℕ → Option ℕ) (place copy : ℕ) (ty : Ty) → b ≡ a ++ ty ∷ [] → ty ≡ replaced s (type_at a place) → t place ≡ None → u place ≡ Some copy
      → ((q : ℕ) → is_eq (nat_cmp place q) ≡ false → u q ≡ t q) → CopiesOnce s a b t u (place + 1)
  one_once a b t u place copy ty pushed is none here others = record {
    once = record { sources = place ∷ []; added = pushed ∙ ap (λ x. a ++ x ∷ []) is; distinct = (tt, tt); below = (omega arith, tt) };
    fresh = (none, tt);
    known = (ap is_some here, tt);
    kept = λ q h. elim (cases_eq place q) [
      | inl e ↦ ap (λ k. is_some (u k)) (sym e) ∙ ap is_some here
      | inr ne ↦ ap is_some (others q (unsigned_tied place q ∙ ne_eqb place q ne)) ∙ h
    ];
    above = λ q h. others q (unsigned_tied place q ∙ ne_eqb place q (λ e. let f : place ≡ q = e in omega (arith, f, h)));
  }

  pub last_once : (a b c : List Ty) (t u v : ℕ → Option ℕ) (place copy : ℕ) (ty : Ty) → place < length a → CopiesOnce s a b t u place → c ≡ b ++ ty ∷ [] → ty ≡ replaced s (type_at a place)
      → t place ≡ None → v place ≡ Some copy → ((q : ℕ) → is_eq (nat_cmp place q) ≡ false → v q ≡ u q) → CopiesOnce s a c t v (place + 1)
  last_once a b c t u v place copy ty lt x pushed is none here others =
      let same : type_at b place ≡ type_at a place = at_front a b place (map (λ p. replaced s (type_at a p)) x.once.sources, x.once.added) lt in
      both_once a b c t u v (place + 1) (omega (arith, lt)) (wider a b t u place (place + 1) (omega arith) x)
      (one_once b c u v place copy ty pushed (is ∙ ap (replaced s) (sym same)) (x.above place (omega arith) ∙ none) here others)

-- a part has a copy, and what this took is among the types
pub record PartCopied (s : Standing) (mid new : List Ty) (fs gs : List FuncTy) (t u : ℕ → Option ℕ) (place part copy : ℕ) : Type 0 where
  pub kept : BeginsWith new mid
  pub funcs : gs ≡ fs
  pub copies : AreCopies s new u
  pub once : CopiesOnce s mid new t u place
  pub is : IsCopy s new part copy

pub part_copied_as : (s : Standing) (mid new made : List Ty) (fs gs hs : List FuncTy) (t u v : ℕ → Option ℕ) (place part copy known : ℕ) → new ≡ made → gs ≡ hs → u ≡ v → copy ≡ known → PartCopied s mid made fs hs t v place part known
    → PartCopied s mid new fs gs t u place part copy
part_copied_as s mid new made fs gs hs t u v place part copy known e f k c x =
    subst (λ (ts : List Ty). PartCopied s mid ts fs gs t u place part copy) (sym e) (subst (λ (ts : List FuncTy). PartCopied s mid made fs ts t u place part copy) (sym f) (subst (λ (w : ℕ → Option ℕ). PartCopied s mid made fs hs t w place part copy) (sym k)
    (subst (λ (n : ℕ). PartCopied s mid made fs hs t v place part n) (sym c) x)))

pub once_alone : {T E : Type 0} (r : Result T E) (s : Standing) (a b : List Ty) (t u : ℕ → Option ℕ) (n : ℕ) → OnOk r (CopiesOnce s a b t u n) → OnOk r (AddsOnce s a b n)
once_alone (Ok x) s a b t u n h = h.once
once_alone (Err e) s a b t u n h = tt
