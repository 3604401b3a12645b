-- Tables among more types.
use Rattle.std.proofs.Common.{ℕ, zero, suc, List, [], ◌∷◌, length, Option, Some, None, sym, subst, arith, append-nil}
use Rattle.std.specs.List.{AllByRecursion}
use Rattle.std.proofs.Math.ListN.{set, replicate}
use Rattle.cm_types.specs.Types.{Ty}
use Rattle.cm_types.specs.Limits.{IsWithinLimits}
use Rattle.cm_wit_meanings.specs.declared.scope.Meaning as code
use Rattle.cm_wit_meanings.specs.declared.scope.Meaning.TheVariants as meant
use Rattle.cm_wit_meanings.specs.Scopes.{Meaning, as_type}
use Rattle.cm_wit_meanings.specs.Places.{ArePlaced, Extends, IsPlaced}
use Rattle.cm_wit_tables.specs.Filled.{AreWithin, IsWithin}
use Rattle.cm_wit_meanings.proofs.GrowthLaws.{extends_length}
use Rattle.cm_wit_meanings.proofs.ScopeLaws.{meaning_kept}

pub extends_same : {A : Type 0} (xs : List A) → Extends xs xs
extends_same xs = ([], sym (append-nil xs))

-- ---- what names stand for

meaning_more : (old new : List Ty) (m : code.Meaning) → Extends old new → IsPlaced (length old) m → IsPlaced (length new) m
meaning_more old new (meant.Value p) e h = let le = extends_length old new e in omega (arith, le, h)
meaning_more old new (meant.Resource r) e h = tt

within_kept : (old new : List Ty) (m : code.Meaning) → Extends old new → IsPlaced (length old) m → IsWithin old m → IsWithin new m
within_kept old new m e h w = subst (λ (x : Meaning). IsWithinLimits (as_type x)) (sym (meaning_kept old new m e h)) w

-- ---- tables

pub placed_more : (old new : List Ty) (table : List (Option code.Meaning)) → Extends old new → ArePlaced (length old) table → ArePlaced (length new) table
placed_more old new [] e h = tt
placed_more old new (None ∷ ms) e h = (tt, placed_more old new ms e h.1)
placed_more old new (Some m ∷ ms) e h = (meaning_more old new m e h.0, placed_more old new ms e h.1)

pub within_more : (old new : List Ty) (table : List (Option code.Meaning)) → Extends old new → ArePlaced (length old) table → AreWithin old table → AreWithin new table
within_more old new [] e h w = tt
within_more old new (None ∷ ms) e h w = (tt, within_more old new ms e h.1 w.1)
within_more old new (Some m ∷ ms) e h w = (within_kept old new m e h.0 w.0, within_more old new ms e h.1 w.1)

-- ---- writing into a list of which something holds

pub all_set : {A : Type 0} (P : A → Type 0) (xs : List A) (i : ℕ) (x : A) → AllByRecursion P xs → P x → AllByRecursion P (set xs i x)
all_set P [] i x h p = tt
all_set P (y ∷ ys) zero x h p = (p, h.1)
all_set P (y ∷ ys) (suc i) x h p = (h.0, all_set P ys i x h.1 p)

pub all_same : {A : Type 0} (P : A → Type 0) (n : ℕ) (x : A) → P x → AllByRecursion P (replicate n x)
all_same P zero x p = tt
all_same P (suc n) x p = (p, all_same P n x p)
