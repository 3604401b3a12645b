-- Laws of what Arena defines, for this crate and those above it.
use Rattle.std.proofs.Common.{List, length, ◌≡◌, [], refl, ◌∷◌, ap, suc, ℕ, ◌<◌, get_or, arith, zero}
use Rattle.cm_types.specs.TypeTrees.{fields_of, type_of}
use Rattle.cm_types.specs.declared.type_trees.Field.{Field}
use Rattle.cm_types_arena.specs.Arena.{field_types, types_in}
use Rattle.cm_types_arena.specs.TypeDefs.{type_at}
use Rattle.cm_types_arena.specs.declared.entries.TypeEntry as arena

pub fields_long : (fs : List Field) → length (field_types (fields_of fs)) ≡ length fs
fields_long [] = refl
fields_long (f ∷ fs) = ap suc (fields_long fs)

pub type_there : (es : List arena.TypeEntry) (k : ℕ) (d : arena.TypeEntry) → k < length es → type_at (types_in es) k ≡ type_of (get_or es k d).node
type_there [] k d h = absurd (omega arith)
type_there (x ∷ es) zero d h = refl
type_there (x ∷ es) (suc k) d h = type_there es k d (omega arith)
