-- What scopes find, also among more types.
use Rattle.std.proofs.Common.{◌≡◌, ℕ, zero, suc, ◌≤◌, List, [], ◌∷◌, length, Option, Some, None, IfSome, refl, ap, slice_index_or}
use Rattle.std.specs.Option.{option_map}
use Rattle.cm_types.specs.Types.{Ty}
use Rattle.cm_wit_meanings.specs.declared.scope.Meaning as code
use Rattle.cm_wit_meanings.specs.declared.scope.Meaning.TheVariants as meant
use Rattle.cm_wit_meanings.specs.declared.scope.Scope as code_scope
use Rattle.cm_wit_meanings.specs.Scopes.{Meaning, value, scope_at}
use Rattle.cm_names.specs.Listed.{listed}
use Rattle.cm_wit_meanings.proofs.GrowthLaws.{extends_length, place_kept}
use Rattle.cm_wit_meanings.specs.Places.{meaning_in, table_in, scope_in, IsPlaced, ArePlaced, Extends}
use Rattle.cm_lemmas.proofs.Numbers.{below_more}

-- ---- what a table has

pub table_get : (types : List Ty) (table : List (Option code.Meaning)) (k : ℕ) → option_map (meaning_in types) (slice_index_or table k None) ≡ slice_index_or (table_in types table) k None
table_get types [] k = refl
table_get types (m ∷ ms) zero = refl
table_get types (m ∷ ms) (suc k) = table_get types ms k

pub placed_get : (count : ℕ) (table : List (Option code.Meaning)) (k : ℕ) → ArePlaced count table → IfSome (slice_index_or table k None) (IsPlaced count)
placed_get count [] k h = tt
placed_get count (m ∷ ms) zero h = h.0
placed_get count (m ∷ ms) (suc k) h = placed_get count ms k h.1

pub ruleset find_laws = (table_get, placed_get)

-- ---- the same among more types

pub meaning_more : (count more : ℕ) (m : code.Meaning) → count ≤ more → IsPlaced count m → IsPlaced more m
meaning_more count more (meant.Value p) le h = below_more count more p le h
meaning_more count more (meant.Resource r) le h = tt

pub placed_more : (count more : ℕ) (table : List (Option code.Meaning)) → count ≤ more → ArePlaced count table → ArePlaced more table
placed_more count more [] le h = tt
placed_more count more (None ∷ ms) le h = (tt, placed_more count more ms le h.1)
placed_more count more (Some m ∷ ms) le h = (meaning_more count more m le h.0, placed_more count more ms le h.1)

pub meaning_kept : (old new : List Ty) (m : code.Meaning) → Extends old new → IsPlaced (length old) m → meaning_in new m ≡ meaning_in old m
meaning_kept old new (meant.Value p) e h = ap value (place_kept old new p e h)
meaning_kept old new (meant.Resource r) e h = refl

pub table_kept : (old new : List Ty) (table : List (Option code.Meaning)) → Extends old new → ArePlaced (length old) table → table_in new table ≡ table_in old table
table_kept old new [] e h = refl
table_kept old new (None ∷ ms) e h = rw (table_kept old new ms e h.1) refl
table_kept old new (Some m ∷ ms) e h = rw (meaning_kept old new m e h.0, table_kept old new ms e h.1) refl

pub scope_kept : (old new : List Ty) (s : code_scope.Scope) → Extends old new → ArePlaced (length old) s.table.now → scope_in new s ≡ scope_in old s
scope_kept old new s e h = ap (λ (t : List (Option Meaning)). scope_at (listed s.names.now) t s.list) (table_kept old new s.table.now e h)

pub scope_placed : (old new : List Ty) (s : code_scope.Scope) → Extends old new → ArePlaced (length old) s.table.now → ArePlaced (length new) s.table.now
scope_placed old new s e h = placed_more (length old) (length new) s.table.now (extends_length old new e) h
