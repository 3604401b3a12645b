-- The arena of types: what its entries are.
use Rattle.std.specs.Prelude.{◌≡◌, ℕ, ◌<◌, ◌≤◌, true, List, [], ◌∷◌, map, length}
use Rattle.std.specs.Prelude.{slice_index_or}
use Rattle.std.specs.List.{AllByRecursion}
use Rattle.std.specs.Option.{option_map}
use Rattle.cm_types.specs.Types.{Ty, FuncTy, Fields, Cases, list, fixed_list, fields, cases}
use Rattle.cm_types.specs.Types.{no_fields, field, no_cases, plain, carrying}
use Rattle.cm_types.specs.Funcs.{func_of}
use Rattle.cm_types.specs.TypeTrees.{type_of}
use Rattle.cm_types.specs.Limits.{IsWithinLimits}
use Rattle.cm_types.specs.Spellable.{is_spellable}
use Rattle.cm_types_arena.specs.declared.entries.TypeEntry.{TypeEntry}
use Rattle.cm_types_arena.specs.declared.funcs.FuncEntry.{FuncEntry}
use Rattle.cm_types_arena.specs.declared.primitives.Primitive.{Primitive}
use Rattle.cm_types_arena.specs.Summaries.{summary_of}
use Rattle.cm_types_arena.specs.TypeDefs.{type_at, primitive_type, primitive_place}
use Rattle.cm_types_arena.specs.TypeDefs.{params_type, IsBelow}

-- the types of fields, and of payloads, in order
abbrev pub field_types : Fields → List Ty
field_types no_fields = []
field_types (field l t fs) = t ∷ field_types fs

abbrev pub payload_types : Cases → List Ty
payload_types no_cases = []
payload_types (plain l cs) = payload_types cs
payload_types (carrying l t cs) = t ∷ payload_types cs

-- the types that a type holds, in the order in which they stand
abbrev pub parts_in : Ty → List Ty
parts_in (list t) = t ∷ []
parts_in (fixed_list t n) = t ∷ []
parts_in (fields k fs) = field_types fs
parts_in (cases k cs) = payload_types cs
parts_in _ = []

-- the types of entries, by place
abbrev pub types_in : List TypeEntry → List Ty
types_in es = map (λ e. type_of e.node) es

-- an entry at a place among these types: its summary is its type's, which is within the limits and
-- can be spelled; its parts are earlier, and are the types that it holds
pub record IsEntry (types : List Ty) (place : ℕ) (e : TypeEntry) : Type 0 where
  pub summary : e.summary ≡ summary_of (type_of e.node)
  pub within_limits : IsWithinLimits (type_of e.node)
  pub spellable : is_spellable (type_of e.node) ≡ true
  pub earlier : AllByRecursion (λ p. p < place) e.parts.items
  pub parts : parts_in (type_of e.node) ≡ map (type_at types) e.parts.items

-- the first entries are the primitive types, and each is one of its place
pub record IsArena (es : List TypeEntry) : Type 0 where
  pub primitives : (p : Primitive) → type_at (types_in es) (primitive_place p) ≡ primitive_type p
  pub some : 11 ≤ length es
  pub entries : (k : ℕ) (d : TypeEntry) → k < length es
      → IsEntry (types_in es) k (slice_index_or es k d)

-- the types of functions, by place among them
abbrev pub funcs_in : List FuncEntry → List FuncTy
funcs_in es = map (λ e. func_of e.func.value) es

-- the entry of a function's type among these types: what is known of its parameters is theirs as
-- the fields of a tuple, its places are among the types, and hold the types in it
pub record IsFuncEntry (types : List Ty) (e : FuncEntry) : Type 0 where
  pub summary : e.summary ≡ summary_of (params_type (func_of e.func.value))
  pub there : AllByRecursion (λ p. p < length types) e.params.items
  pub params : field_types (func_of e.func.value).params ≡ map (type_at types) e.params.items
  pub result_there : IsBelow (length types) e.result
  pub result : (func_of e.func.value).result ≡ option_map (type_at types) e.result

-- each entry is one among these types
abbrev pub AreFuncs : List Ty → List FuncEntry → Type 0
AreFuncs types es =
    (k : ℕ) (d : FuncEntry) → k < length es → IsFuncEntry types (slice_index_or es k d)
