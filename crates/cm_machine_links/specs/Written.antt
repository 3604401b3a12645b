-- What the canonical definitions of a set's components write, and its plan says in their place
-- (Explainer.md, "Canonical Definitions"; CanonicalABI.md, "Canonical Options").
use Rattle.std.specs.Prelude.{◌≡◌, ⊤, ℕ, List, [], map, Contains, Option, Some, None}
use Rattle.std.specs.Prelude.{slice_get, unwrap_or}
use Rattle.cm_types.specs.declared.resource.ResourceId.{ResourceId}
use Rattle.cm_types.specs.DefTypes.{resource_def}
use Rattle.cm_types_arena.specs.Replaced.{replaced_func}
use Rattle.cm_binary_model.specs.Trees.{SectionTree}
use Rattle.cm_binary_model.specs.declared.canons.CanonOption.{CanonOption}
use Rattle.cm_binary_model.specs.declared.canons.CanonOption.TheVariants as option
use Rattle.cm_abi_model.specs.declared.encoding.StringEncoding.{StringEncoding}
use Rattle.cm_abi_model.specs.declared.encoding.StringEncoding.TheVariants as encoding
use Rattle.cm_validate_model.specs.Definitions.{CoreFuncDef, guest, lowered, making, dropping}
use Rattle.cm_validate_model.specs.Definitions.{reading, lifted}
use Rattle.cm_validate_model.specs.Items.{Item, all_items, type_item}
use Rattle.cm_validate_model.specs.Sources.{IsAdded, IsCoreAdded, IsItemAt}
use Rattle.cm_validate_model.specs.Spaces.{Spaces, next_resource, spaces_of}
use Rattle.cm_match_model.specs.Imports.{Sees, links_of, seen_by}
use Rattle.cm_match_model.specs.Origins.{origin_of, resource_of}
use Rattle.cm_match_model.specs.Serving.{standing}
use Rattle.cm_match_model.specs.Targets.{Target, targets_of}
use Rattle.cm_machine_model.specs.Plan as plan
use Rattle.cm_machine_model.specs.Plan.{CoreFunc, Link, Plan, Side, core_func_at}

-- ---- options

-- strings are in the encoding that the options write, and in UTF-8 where they write none
pub record WritesEncoding (os : List CanonOption) (e : StringEncoding) : Type 0 where
  pub utf8 : Contains os option.Utf8 → e ≡ encoding.Utf8
  pub utf16 : Contains os option.Utf16 → e ≡ encoding.Utf16
  pub latin1_utf16 : Contains os option.Latin1Utf16 → e ≡ encoding.Latin1OrUtf16
  pub none : (Contains os option.Utf16 → ⊥) → (Contains os option.Latin1Utf16 → ⊥)
      → e ≡ encoding.Utf8

-- a function is the one that an option of this kind writes, and none where none is written
pub record WritesFunc (kind : ℕ → CanonOption) (os : List CanonOption) (func : Option ℕ)
    : Type 0 where
  pub written : (f : ℕ) → Contains os (kind f) → func ≡ Some f
  pub none : ((f : ℕ) → Contains os (kind f) → ⊥) → func ≡ None

-- a side of a link is that of a lift, or of a lower, with these options
pub record WritesSide (os : List CanonOption) (s : Side) : Type 0 where
  pub encoding : WritesEncoding os s.encoding
  pub realloc : WritesFunc option.Realloc os s.realloc

-- ---- core functions

-- the sections of a component of the set, and its items in order
abbrev pub sections_at : List (List SectionTree) → ℕ → List SectionTree
sections_at components c = unwrap_or (slice_get components c) []

abbrev pub items_at : List (List SectionTree) → ℕ → List Item
items_at components c = all_items (sections_at components c)

-- A link of an import that is lowered with these options: the caller's side is as the lower writes
-- it. What is called is the lift that the import comes to: its component, its core function, its
-- type, with each resource what it is in the end; the callee's side, and what tidies up behind the
-- call, are as that lift writes them.
pub record IsLinkWritten (components : List (List SectionTree)) (sees : Sees) (c import : ℕ)
    (item : Option ℕ) (os : List CanonOption) (l : Link) : Type 0 where
  pub caller : WritesSide os l.caller
  pub target : Target
  pub reached : targets_of (map spaces_of components)
      (links_of (seen_by sees (map spaces_of components))) c import item ≡ Some target
  pub lift : IsAdded (items_at components target.component)
      (lifted target.core_func target.ty target.options)
  pub instance : l.instance ≡ target.component
  pub func : l.func ≡ target.core_func
  pub type : l.type
      ≡ replaced_func (standing (seen_by sees (map spaces_of components)) target.component)
      target.ty
  pub callee : WritesSide target.options l.callee
  pub post_return : WritesFunc option.PostReturn target.options l.post_return

-- Handles of a resource of a component are dropped: those of what it is in the end; the destructor
-- is the one that the type definition of this resource writes, and none where that writes none.
pub record IsDropWritten (components : List (List SectionTree)) (sees : Sees) (c n : ℕ)
    (r : ResourceId) (d : Option ℕ) : Type 0 where
  pub origin : origin_of (map spaces_of components)
      (links_of (seen_by sees (map spaces_of components))) (resource_of c n) ≡ Some r
  pub destructor : (s : Spaces) (written : Option ℕ)
      → IsItemAt (items_at components r.component) s (type_item (resource_def written))
      → next_resource s ≡ r.number → d ≡ written

-- What a plan has in the place of a core function of a component is as its definition writes it:
-- what makes and reads handles is of the component's own resource.
abbrev pub IsCoreFuncWritten : List (List SectionTree) → Sees → ℕ → CoreFuncDef → CoreFunc
    → Type 0
IsCoreFuncWritten components sees c (guest e) plan.guest = ⊤
IsCoreFuncWritten components sees c (lowered import item ty os) (plan.lowered l) =
    IsLinkWritten components sees c import item os l
IsCoreFuncWritten components sees c (making n) (plan.makes r) = r ≡ resource_of c n
IsCoreFuncWritten components sees c (dropping n) (plan.drops r d) =
    IsDropWritten components sees c n r d
IsCoreFuncWritten components sees c (reading n) (plan.represents r) = r ≡ resource_of c n
IsCoreFuncWritten components sees c d x = ⊥

-- what a plan has in the place of an index of a core function that has this definition
pub record HasCoreFunc (components : List (List SectionTree)) (sees : Sees) (p : Plan) (c f : ℕ)
    (d : CoreFuncDef) : Type 0 where
  pub added : IsCoreAdded (items_at components c) d
  pub func : CoreFunc
  pub there : core_func_at p c f ≡ Some func
  pub written : IsCoreFuncWritten components sees c d func

-- A plan is as the components of its set write it: each core function in the index space of a
-- component is a guest's, or added by a canonical definition there, and the plan has in its place
-- what that writes; it has no other.
pub record IsPlanWritten (components : List (List SectionTree)) (sees : Sees) (p : Plan)
    : Type 0 where
  pub core_funcs : (c f : ℕ) (d : CoreFuncDef)
      → slice_get (spaces_of (sections_at components c)).core_funcs f ≡ Some d
      → HasCoreFunc components sees p c f d
  pub no_other : (c f : ℕ)
      → slice_get (spaces_of (sections_at components c)).core_funcs f ≡ None
      → core_func_at p c f ≡ None
