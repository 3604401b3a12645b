-- First indices of definitions.
use Rattle.std.proofs.Common.{◌≡◌, ℕ, zero, suc, ◌<◌, List, [], ◌∷◌, ◌++◌, length, Option, Some, None, slice_get, refl, sym, ap, subst, ◌∙◌, arith, length-append, append-nil}
use Rattle.std.proofs.lemmas.Option.{slice_get_within}
use Rattle.std.specs.Prelude.{option_to_list}
use Rattle.cm_lemmas.proofs.Options.{some_is}
use Rattle.cm_lemmas.proofs.Lists.{get_front, item_there}

-- ---- lists

pub seam : {A : Type 0} (xs ys : List A) (y : A) → slice_get (xs ++ y ∷ ys) (length xs) ≡ Some y
seam [] ys y = refl
seam (x ∷ xs) ys y = seam xs ys y

-- what holds of each, and of one more
pub each_more : {A : Type 0} (P : ℕ → A → Type 0) (xs : List A) (y : A) → ((i : ℕ) (x : A) → slice_get xs i ≡ Some x → P i x) → P (length xs) y
    → (i : ℕ) (x : A) → slice_get (xs ++ y ∷ []) i ≡ Some x → P i x
each_more P [] y f p zero x e = subst (P zero) (some_is y x e) p
each_more P [] y f p (suc i) x e = absurd cc
each_more P (z ∷ zs) y f p zero x e = f zero x e
each_more P (z ∷ zs) y f p (suc i) x e = each_more (λ j. P (suc j)) zs y (λ j w h. f (suc j) w h) p i x e

-- ---- first indices

-- each definition is that of its first index
pub record Roots {A : Type 0} (defs : List A) (firsts : List ℕ) : Type 0 where
  pub long : length firsts ≡ length defs
  pub same : (i r : ℕ) → slice_get firsts i ≡ Some r → (x : A) × (slice_get defs i ≡ Some x) × (slice_get defs r ≡ Some x)

pub no_roots : {A : Type 0} → Roots {A = A} [] []
no_roots {A} = record { long = refl; same = λ i r e. absurd cc }

pub roots_kept : {A : Type 0} (defs more : List A) (firsts : List ℕ) → Roots defs firsts → more ≡ [] → Roots (defs ++ more) firsts
roots_kept {A} defs more firsts k e = subst (λ (ds : List A). Roots ds firsts) (sym (ap (λ (ys : List A). defs ++ ys) e ∙ append-nil defs)) k

roots_grow : {A : Type 0} (defs : List A) (firsts : List ℕ) (x : A) (r : ℕ) → Roots defs firsts → slice_get (defs ++ x ∷ []) r ≡ Some x → Roots (defs ++ x ∷ []) (firsts ++ r ∷ [])
roots_grow {A} defs firsts x r k e = record {
  long = omega (arith, k.long, length-append firsts (r ∷ []), length-append defs (x ∷ []));
  same = each_more (λ (i q : ℕ). (y : A) × (slice_get (defs ++ x ∷ []) i ≡ Some y) × (slice_get (defs ++ x ∷ []) q ≡ Some y)) firsts r
      (λ i q h. let s = k.same i q h in (s.0, get_front defs (x ∷ []) i s.0 s.1, get_front defs (x ∷ []) q s.0 s.2))
      (x, ap (λ (n : ℕ). slice_get (defs ++ x ∷ []) n) k.long ∙ seam defs [] x, e);
}

pub roots_own : {A : Type 0} (defs more : List A) (firsts : List ℕ) (x : A) → Roots defs firsts → more ≡ x ∷ [] → Roots (defs ++ more) (firsts ++ length firsts ∷ [])
roots_own {A} defs more firsts x k e =
    subst (λ (ys : List A). Roots (defs ++ ys) (firsts ++ length firsts ∷ [])) (sym e)
    (roots_grow defs firsts x (length firsts) k (ap (λ (n : ℕ). slice_get (defs ++ x ∷ []) n) k.long ∙ seam defs [] x))

-- the first index of what is there
pub root_there : {A : Type 0} (defs : List A) (firsts : List ℕ) (i : ℕ) (x : A) → Roots defs firsts → slice_get defs i ≡ Some x → (r : ℕ) × (slice_get firsts i ≡ Some r) × (slice_get defs r ≡ Some x)
root_there {A} defs firsts i x k e =
    let lt : i < length firsts = omega (arith, k.long, slice_get_within defs i x e) in
    let t = item_there firsts i lt in
    let s = k.same i t.0 t.1 in
    (t.0, t.1, s.2 ∙ (sym s.1 ∙ e))

again : {A : Type 0} (defs : List A) (firsts : List ℕ) (i : ℕ) (o : Option A) (p : Option ℕ) → Roots defs firsts → slice_get defs i ≡ o → slice_get firsts i ≡ p
    → Roots (defs ++ option_to_list o) (firsts ++ option_to_list p)
again {A} defs firsts i None None k e h = subst (λ (ns : List ℕ). Roots (defs ++ []) ns) (sym (append-nil firsts)) (roots_kept defs [] firsts k refl)
again {A} defs firsts i (Some x) (Some r) k e h =
    let s = k.same i r h in
    roots_grow defs firsts x r k (get_front defs (x ∷ []) r x (s.2 ∙ (sym s.1 ∙ e)))
again {A} defs firsts i (Some x) None k e h =
    let t = root_there defs firsts i x k e in
    let u : Some t.0 ≡ None = sym t.1 ∙ h in
    absurd cc
again {A} defs firsts i None (Some r) k e h =
    let s = k.same i r h in
    let u : Some s.0 ≡ None = sym s.1 ∙ e in
    absurd cc

pub roots_again : {A : Type 0} (defs : List A) (firsts : List ℕ) (i : ℕ) → Roots defs firsts → Roots (defs ++ option_to_list (slice_get defs i)) (firsts ++ option_to_list (slice_get firsts i))
roots_again defs firsts i k = again defs firsts i (slice_get defs i) (slice_get firsts i) k refl refl
