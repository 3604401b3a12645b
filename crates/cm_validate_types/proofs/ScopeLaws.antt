-- What entries stand for, also among more types.
use Rattle.std.proofs.Common.{inl, inr, ◌≡◌, ℕ, zero, suc, ◌<◌, ◌≤◌, Bool, true, List, [], ◌∷◌, ◌++◌, length, map, get_or, nat_lt, Option, Some, None, refl, sym, ap, ◌∙◌, arith, slice_get, unwrap_or, append-nil, length-append, Result, Ok, Err, OnOk, OnErr}
use Rattle.std.specs.Prelude.{is_none}
use Rattle.std.specs.List.{list_all}
use Rattle.std.specs.Option.{option_map, option_and_then}
use Rattle.std.proofs.lemmas.Bool.{ltb-true, lt-ltb, cases_lt}
use Rattle.std.proofs.lemmas.List.{get_or_append_left, get_or_push}
use Rattle.std.proofs.lemmas.Option.{slice_get-map}
use Rattle.std.proofs.Math.Logic.{∥∥₁_elim}
use mathlib.Core.Bool.{Bool-set}
use Rattle.cm_types.specs.declared.def_types.PrimValType.{PrimValType}
use Rattle.cm_types.specs.declared.def_types.PrimValType.TheVariants as prim
use Rattle.cm_types.specs.declared.def_types.ValType.{ValType}
use Rattle.cm_types.specs.declared.def_types.ValType.TheVariants as val_type
use Rattle.cm_types.specs.Limits.{nodes_of, depth_of}
use Rattle.cm_types.specs.Spellable.{is_spellable}
use Rattle.cm_validate_model.specs.TypeRules.{is_within_limits}
use Rattle.cm_validate_types.proofs.LimitLaws.{within_told, AllWithin}
use Rattle.cm_validate_types.proofs.SpellLaws.{primitive_spelled}
use Rattle.cm_types.specs.Types.{Ty, FuncTy, bool, no_fields}
use Rattle.cm_types.specs.TypeTrees.{type_of}
use Rattle.cm_types_arena.specs.Arena.{IsArena, types_in}
use Rattle.cm_types_arena.specs.declared.entries.TypeEntry as arena
use Rattle.cm_types_arena.specs.TypeDefs.{type_at, func_at}
use Rattle.cm_validate_model.specs.Definitions.{value, func_type, instance_type, sort_of, sorts_of}
use Rattle.cm_validate_model.specs.Scopes.{value_in, primitive_type}
use Rattle.cm_validate_types.specs.declared.entries.TypeEntry.{TypeEntry}
use Rattle.cm_validate_types.specs.declared.entries.TypeEntry.TheVariants as entry
use Rattle.cm_types_arena.specs.declared.instances.Item.{Item}
use Rattle.cm_types_arena.specs.declared.instances.ItemDesc.{ItemDesc}
use Rattle.cm_types_arena.specs.declared.instances.ItemDesc.TheVariants as item
use Rattle.cm_types_arena.specs.Instances.{desc_of, items_of, is_desc_there, are_items_there}
use Rattle.cm_types_arena.specs.Placed.{moved_by, placed_func, placed_type}
use Rattle.cm_types_arena.specs.declared.placed.Placed.{Placed}
use Rattle.cm_types_arena.specs.Replaced.{Standing, replaced, replaced_func}
use Rattle.cm_validate_types.specs.Entries.{def_of, entry_sort, is_entry_there, in_arena}
use Rattle.cm_validate_types.specs.Expansion.{value_or_bool}
use Rattle.cm_validate_types.specs.TypeScopes.{Extends}
use Rattle.cm_lemmas.proofs.Bools.{both_left, both_right}
use Rattle.cm_types_arena.proofs.ArenaLemmas.{type_there}

-- ---- sorts

pub sort_told : (types : List Ty) (funcs : List FuncTy) (e : TypeEntry) → sort_of (def_of types funcs e) ≡ entry_sort e
sort_told types funcs (entry.Value p) = refl
sort_told types funcs (entry.Func p) = refl
sort_told types funcs (entry.Resource n) = refl
sort_told types funcs (entry.Instance i) = refl

pub sorts_told : (types : List Ty) (funcs : List FuncTy) (es : List TypeEntry) → sorts_of (map (def_of types funcs) es) ≡ map entry_sort es
sorts_told types funcs [] = refl
sorts_told types funcs (e ∷ es) = rw (sort_told types funcs e, sorts_told types funcs es) refl

-- ---- among more types

no_func : FuncTy
no_func = record { params = no_fields; result = None }

module _ (types more : List Ty) (funcs others : List FuncTy) where
  pub type_kept : (p : ℕ) → nat_lt p (length types) ≡ true → type_at (types ++ more) p ≡ type_at types p
  type_kept p h = get_or_append_left types more bool p (ltb-true p (length types) h)

  pub func_kept : (p : ℕ) → nat_lt p (length funcs) ≡ true → func_at (funcs ++ others) p ≡ func_at funcs p
  func_kept p h = get_or_append_left funcs others _ p (ltb-true p (length funcs) h)

  desc_kept : (d : ItemDesc) → is_desc_there (length types) (length funcs) d ≡ true → desc_of (types ++ more) (funcs ++ others) d ≡ desc_of types funcs d
  desc_kept (item.Func p) h = rw (func_kept p.place h) refl
  desc_kept (item.EqualType p) h = rw (type_kept p.place h) refl
  desc_kept (item.EqualResource n) h = refl
  desc_kept (item.FreshResource n) h = refl

  items_kept : (is : List Item) → list_all (λ x. is_desc_there (length types) (length funcs) x.desc) is ≡ true → items_of (types ++ more) (funcs ++ others) is ≡ items_of types funcs is
  items_kept [] h = refl
  items_kept (x ∷ xs) h =
      let now = desc_kept x.desc (both_left (is_desc_there (length types) (length funcs) x.desc) (list_all (λ y. is_desc_there (length types) (length funcs) y.desc) xs) h) in
      let rest = items_kept xs (both_right (is_desc_there (length types) (length funcs) x.desc) (list_all (λ y. is_desc_there (length types) (length funcs) y.desc) xs) h) in
      rw (now, rest) refl

  def_kept : (e : TypeEntry) → is_entry_there (length types) (length funcs) e ≡ true → def_of (types ++ more) (funcs ++ others) e ≡ def_of types funcs e
  def_kept (entry.Value p) h = ap (λ t. value (replaced (moved_by p.by) t)) (type_kept p.place h)
  def_kept (entry.Func p) h = ap (λ f. func_type (replaced_func (moved_by p.by) f)) (func_kept p.place (both_left (nat_lt p.place (length funcs)) (is_none p.by) h))
  def_kept (entry.Resource n) h = refl
  def_kept (entry.Instance i) h = ap (λ is. instance_type (record { items = is; first = i.value.ty.value.first; fresh = i.value.ty.value.fresh })) (items_kept i.value.ty.value.items.items h)

  pub defs_kept : (es : List TypeEntry) → in_arena types funcs es ≡ true → map (def_of (types ++ more) (funcs ++ others)) es ≡ map (def_of types funcs) es
  defs_kept [] h = refl
  defs_kept (e ∷ es) h =
      let now = def_kept e (both_left (is_entry_there (length types) (length funcs) e) (in_arena types funcs es) h) in
      let rest = defs_kept es (both_right (is_entry_there (length types) (length funcs) e) (in_arena types funcs es) h) in
      rw (now, rest) refl

-- ---- places

below_more : (p m n : ℕ) → m ≤ n → nat_lt p m ≡ true → nat_lt p n ≡ true
below_more p m n le h = let lt : p < m = ltb-true p m h in lt-ltb p n (omega arith)

module _ (t u f g : ℕ) (types : t ≤ u) (funcs : f ≤ g) where
  desc_more : (d : ItemDesc) → is_desc_there t f d ≡ true → is_desc_there u g d ≡ true
  desc_more (item.Func p) h = below_more p.place f g funcs h
  desc_more (item.EqualType p) h = below_more p.place t u types h
  desc_more (item.EqualResource n) h = refl
  desc_more (item.FreshResource n) h = refl

  items_more : (is : List Item) → list_all (λ x. is_desc_there t f x.desc) is ≡ true → list_all (λ x. is_desc_there u g x.desc) is ≡ true
  items_more [] h = refl
  items_more (x ∷ xs) h =
      rw (desc_more x.desc (both_left (is_desc_there t f x.desc) (list_all (λ y. is_desc_there t f y.desc) xs) h), items_more xs (both_right (is_desc_there t f x.desc) (list_all (λ y. is_desc_there t f y.desc) xs) h)) refl

  placed_more : (e : TypeEntry) → is_entry_there t f e ≡ true → is_entry_there u g e ≡ true
  placed_more (entry.Value p) h = below_more p.place t u types h
  placed_more (entry.Func p) h =
      rw (below_more p.place f g funcs (both_left (nat_lt p.place f) (is_none p.by) h), both_right (nat_lt p.place f) (is_none p.by) h) refl
  placed_more (entry.Resource n) h = refl
  placed_more (entry.Instance i) h = items_more i.value.ty.value.items.items h

  pub all_more : (es : List TypeEntry) → list_all (is_entry_there t f) es ≡ true → list_all (is_entry_there u g) es ≡ true
  all_more [] h = refl
  all_more (e ∷ es) h =
      rw (placed_more e (both_left (is_entry_there t f e) (list_all (is_entry_there t f) es) h), all_more es (both_right (is_entry_there t f e) (list_all (is_entry_there t f) es) h)) refl

-- ---- what an arena became

pub grown_by : {A T E : Type 0} (r : Result T E) (old new : List A) (x : A) → OnOk r (new ≡ old ++ x ∷ []) → OnErr r (new ≡ old) → Extends old new
grown_by (Ok v) old new x p q = (x ∷ [], p)
grown_by (Err e) old new x p q = ([], q ∙ sym (append-nil old))

pub grown_not : {A : Type 0} (old new : List A) → new ≡ old → Extends old new
grown_not old new e = ([], e ∙ sym (append-nil old))

pub defs_among_more : (t u : List Ty) (f g : List FuncTy) → Extends t u → Extends f g → (es : List TypeEntry) → in_arena t f es ≡ true → map (def_of u g) es ≡ map (def_of t f) es
defs_among_more t u f g p q es h = rw (p.1, q.1) (defs_kept t p.0 f q.0 es h)

pub placed_among_more : (t u : List Ty) (f g : List FuncTy) → Extends t u → Extends f g → (es : List TypeEntry) → in_arena t f es ≡ true → in_arena u g es ≡ true
placed_among_more t u f g p q es h =
    all_more (length t) (length u) (length f) (length g) (omega (arith, ap length p.1, length-append t p.0)) (omega (arith, ap length q.1, length-append f q.0)) es h

pub items_stay : (t u : List Ty) (f g : List FuncTy) (is : List Item) → Extends t u → Extends f g → are_items_there (length t) (length f) is ≡ true → items_of u g is ≡ items_of t f is
items_stay t u f g is p q h = rw (p.1, q.1) (items_kept t p.0 f q.0 is h)

pub items_there : (t u : List Ty) (f g : List FuncTy) (is : List Item) → Extends t u → Extends f g → are_items_there (length t) (length f) is ≡ true → are_items_there (length u) (length g) is ≡ true
items_there t u f g is p q h =
    items_more (length t) (length u) (length f) (length g) (omega (arith, ap length p.1, length-append t p.0)) (omega (arith, ap length q.1, length-append f q.0)) is h

-- the last type of an arena
pub last_type : (types : List Ty) (t : Ty) → type_at (types ++ t ∷ []) (length types) ≡ t
last_type types t = get_or_push types t bool (length types) refl

pub last_func : (funcs : List FuncTy) (f : FuncTy) → func_at (funcs ++ f ∷ []) (length funcs) ≡ f
last_func funcs f = get_or_push funcs f _ (length funcs) refl

-- ---- what an arena's types are

pub spelled_at : (es : List arena.TypeEntry) → ∥ IsArena es ∥₁ → (k : ℕ) → is_spellable (type_at (types_in es) k) ≡ true
spelled_at es a k = elim (cases_lt k (length es)) [
  | inl lt ↦ spelled_there es k lt a
  | inr le ↦ ap is_spellable (beyond es k le)
]
  where
    beyond : (es : List arena.TypeEntry) (k : ℕ) → length es ≤ k → type_at (types_in es) k ≡ bool
    beyond [] k h = refl
    beyond (x ∷ es) zero h = absurd (omega arith)
    beyond (x ∷ es) (suc k) h = beyond es k (omega arith)

    spelled_there : (es : List arena.TypeEntry) (k : ℕ) → k < length es → ∥ IsArena es ∥₁ → is_spellable (type_at (types_in es) k) ≡ true
    spelled_there [] k h a = absurd (omega arith)
    spelled_there (x ∷ es) k h a = ∥∥₁_elim a (Bool-set _ _) (λ b. ap is_spellable (type_there (x ∷ es) k x h) ∙ (b.entries k x h).spellable)

pub within_at : (es : List arena.TypeEntry) → ∥ IsArena es ∥₁ → (k : ℕ) → is_within_limits (type_at (types_in es) k) ≡ true
within_at es a k = elim (cases_lt k (length es)) [
  | inl lt ↦ within_there es k lt a
  | inr le ↦ ap is_within_limits (beyond es k le)
]
  where
    beyond : (es : List arena.TypeEntry) (k : ℕ) → length es ≤ k → type_at (types_in es) k ≡ bool
    beyond [] k h = refl
    beyond (x ∷ es) zero h = absurd (omega arith)
    beyond (x ∷ es) (suc k) h = beyond es k (omega arith)

    within_there : (es : List arena.TypeEntry) (k : ℕ) → k < length es → ∥ IsArena es ∥₁ → is_within_limits (type_at (types_in es) k) ≡ true
    within_there [] k h a = absurd (omega arith)
    within_there (x ∷ es) k h a =
        ∥∥₁_elim a (Bool-set _ _) (λ b. ap is_within_limits (type_there (x ∷ es) k x h) ∙ within_told (type_of (get_or (x ∷ es) k x).node) (b.entries k x h).within_limits)

primitive_within : (p : PrimValType) → is_within_limits (primitive_type p) ≡ true
primitive_within prim.Bool = refl
primitive_within prim.S8 = refl
primitive_within prim.U8 = refl
primitive_within prim.S16 = refl
primitive_within prim.U16 = refl
primitive_within prim.S32 = refl
primitive_within prim.U32 = refl
primitive_within prim.S64 = refl
primitive_within prim.U64 = refl
primitive_within prim.Char = refl
primitive_within prim.String = refl

-- ---- what may be named passes each test that the arena's types pass

module _ (test : Ty → Bool) (stays : (s : Standing) (t : Ty) → test (replaced s t) ≡ test t) (prims : (p : PrimValType) → test (primitive_type p) ≡ true) (types : List Ty) (all : (k : ℕ) → test (type_at types k) ≡ true) (funcs : List FuncTy) where
  entry_passes : (o : Option TypeEntry) → test (unwrap_or (option_and_then value_in (option_map (def_of types funcs) o)) bool) ≡ true
  entry_passes None = prims prim.Bool
  entry_passes (Some (entry.Value p)) = stays (moved_by p.by) (type_at types p.place) ∙ all p.place
  entry_passes (Some (entry.Func p)) = prims prim.Bool
  entry_passes (Some (entry.Resource n)) = prims prim.Bool
  entry_passes (Some (entry.Instance i)) = prims prim.Bool

  pub value_passes : (es : List TypeEntry) (t : ValType) → test (value_or_bool (map (def_of types funcs) es) t) ≡ true
  value_passes es (val_type.Primitive p) = prims p
  value_passes es (val_type.Index i) = rw (slice_get-map (def_of types funcs) es i) (entry_passes (slice_get es i))

abbrev pub Spellings : Type 0
Spellings = (s : Standing) (t : Ty) → is_spellable (replaced s t) ≡ is_spellable t

pub values_spelled : Spellings → (arena_entries : List arena.TypeEntry) → ∥ IsArena arena_entries ∥₁ → (funcs : List FuncTy) (es : List TypeEntry) (t : ValType) → is_spellable (value_or_bool (map (def_of (types_in arena_entries) funcs) es) t) ≡ true
values_spelled stays arena_entries a funcs es t = value_passes is_spellable stays primitive_spelled (types_in arena_entries) (spelled_at arena_entries a) funcs es t

within_same : ((s : Standing) (t : Ty) → nodes_of (replaced s t) ≡ nodes_of t) → ((s : Standing) (t : Ty) → depth_of (replaced s t) ≡ depth_of t) → (s : Standing) (t : Ty) → is_within_limits (replaced s t) ≡ is_within_limits t
within_same nodes depth s t = rw (nodes s t, depth s t) refl

pub result_within : ((s : Standing) (t : Ty) → nodes_of (replaced s t) ≡ nodes_of t) → ((s : Standing) (t : Ty) → depth_of (replaced s t) ≡ depth_of t)
    → (arena_entries : List arena.TypeEntry) → ∥ IsArena arena_entries ∥₁ → (funcs : List FuncTy) (es : List TypeEntry) (o : Option ValType)
    → AllWithin (option_map (value_or_bool (map (def_of (types_in arena_entries) funcs) es)) o)
result_within nodes depth arena_entries a funcs es None = tt
result_within nodes depth arena_entries a funcs es (Some t) = value_passes is_within_limits (within_same nodes depth) primitive_within (types_in arena_entries) (within_at arena_entries a) funcs es t

-- ---- the last type, where nothing moved it

pub value_added : ((t : Ty) → replaced (moved_by None) t ≡ t) → (old new : List Ty) (t : Ty) (p : Placed) → new ≡ old ++ t ∷ [] → p.place ≡ length old → p.by ≡ None → value (placed_type new p) ≡ value t
value_added unmoved old new t p pushed place none =
    ap value (ap (λ o. replaced (moved_by o) (type_at new p.place)) none ∙ unmoved (type_at new p.place) ∙ ap (λ ts. type_at ts p.place) pushed ∙ ap (type_at (old ++ t ∷ [])) place ∙ last_type old t)

pub func_added : ((f : FuncTy) → replaced_func (moved_by None) f ≡ f) → (old new : List FuncTy) (f : FuncTy) (p : Placed) → new ≡ old ++ f ∷ [] → p.place ≡ length old → p.by ≡ None → func_type (placed_func new p) ≡ func_type f
func_added unmoved old new f p pushed place none =
    ap func_type (ap (λ o. replaced_func (moved_by o) (func_at new p.place)) none ∙ unmoved (func_at new p.place) ∙ ap (λ fs. func_at fs p.place) pushed ∙ ap (func_at (old ++ f ∷ [])) place ∙ last_func old f)
