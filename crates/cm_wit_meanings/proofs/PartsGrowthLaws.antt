-- Types that are added behind others.
use Rattle.std.proofs.Common.{◌≡◌, ℕ, ◌<◌, List, [], ◌∷◌, ◌++◌, length, refl, sym, ap, ◌∙◌, arith, length-append, subst}
use Rattle.std.proofs.lemmas.List.{get_or_push}
use Rattle.cm_types.specs.Types.{Ty, bool}
use Rattle.cm_types_arena.specs.TypeDefs.{type_at}
use Rattle.std.proofs.lemmas.List.{length-map}
use Rattle.std.proofs.Math.Logic.{∥∥₁_elim}
use Rattle.std.proofs.Math.Bridge.{le_prop}
use Rattle.cm_types.specs.Limits.{IsWithinLimits}
use Rattle.cm_types.specs.TypeTrees.{type_of}
use Rattle.cm_types_arena.specs.Arena.{IsArena, types_in}
use Rattle.cm_types_arena.specs.declared.entries.TypeEntry as arena
use Rattle.cm_wit_meanings.specs.Places.{Extends}
use Rattle.cm_wit_meanings.proofs.GrowthLaws.{extends_same}
use Rattle.cm_types_arena.proofs.ArenaLemmas.{type_there}

pub extends_one : {A : Type 0} (old new : List A) (x : A) → new ≡ old ++ x ∷ [] → Extends old new
extends_one old new x e = (x ∷ [], e)

pub type_last : (old new : List Ty) (t : Ty) (p : ℕ) → new ≡ old ++ t ∷ [] → p ≡ length old → type_at new p ≡ t
type_last old new t p e q = rw (e, q) (get_or_push old t bool (length old) refl)

pub there_last : (old new : List Ty) (t : Ty) (p : ℕ) → new ≡ old ++ t ∷ [] → p ≡ length old → p < length new
there_last old new t p e q = let n = ap length e ∙ length-append old (t ∷ []) in omega (arith, n, q)

-- ---- places that are there stay what they are

-- ---- the types of an arena are within the limits

within_there : (es : List arena.TypeEntry) (k : ℕ) (d : arena.TypeEntry) → k < length es → IsArena es → IsWithinLimits (type_at (types_in es) k)
within_there es k d lt a = subst IsWithinLimits (sym (type_there es k d lt)) (a.entries k d lt).within_limits

pub arena_within : (es : List arena.TypeEntry) → ∥ IsArena es ∥₁ → (k : ℕ) → k < length (types_in es) → IsWithinLimits (type_at (types_in es) k)
arena_within [] a k lt = absurd (omega arith)
arena_within (x ∷ es) a k lt =
    let below : k < length (x ∷ es) = subst (λ (n : ℕ). k < n) (length-map (x ∷ es) (λ e. type_of e.node)) lt in
    (∥∥₁_elim a le_prop (λ b. (within_there (x ∷ es) k x below b).0), ∥∥₁_elim a le_prop (λ b. (within_there (x ∷ es) k x below b).1))

pub ruleset push_laws = (extends_same, extends_one, type_last, there_last, arena_within)
