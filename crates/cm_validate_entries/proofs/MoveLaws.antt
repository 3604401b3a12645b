-- An instance that is imported: its items, with the resources that they bring counted from the
-- component's next number on.
use Rattle.std.proofs.Common.{◌≡◌, inl, inr, ℕ, ◌+◌, ◌<◌, List, [], ◌∷◌, ◌++◌, map, Option, Some, None, refl, sym, ap, ◌∙◌, IfSome}
use Rattle.std.proofs.lemmas.Bool.{cases_lt, lt-leb}
use Rattle.std.proofs.lemmas.List.{map-append}
use Rattle.std.specs.Option.{option_map}
use Rattle.cm_types.specs.Signatures.{ItemTy, NamedItem, func_item, equal_type, equal_resource, fresh_resource}
use Rattle.cm_types.specs.Types.{Ty, Fields, FuncTy, fields, tuple_type}
use Rattle.cm_types_arena.specs.Replaced.{replaced, replaced_func}
use Rattle.cm_types_arena.specs.Moves.{moved as moved_range}
use Rattle.cm_types_arena.specs.declared.moves.Move.{Move}
use Rattle.cm_types_arena.specs.Placed.{moved_by, placed_type, placed_func}
use Rattle.cm_types_arena.specs.Instances.{desc_of, items_of, numbered, replaced_desc, replaced_item}
use Rattle.cm_types_arena.specs.declared.instances.Item.{Item}
use Rattle.cm_types_arena.specs.declared.instances.ItemDesc.{ItemDesc}
use Rattle.cm_types_arena.specs.declared.instances.ItemDesc.TheVariants as item
use Rattle.cm_types_arena.specs.TypeDefs.{type_at, func_at}
use Rattle.cm_validate_model.specs.Definitions.{InstanceTy, MemberDef, NamedMember, ResourceDef, brought, func_member, imported, type_member, value, resource}
use Rattle.cm_validate_model.specs.Moves.{moved, moved_id, moved_type, moved_fields, moved_func, moved_item}
use Rattle.cm_validate_model.specs.Spaces.{member_of_item, members_from, brought_by, brought_from}
use Rattle.cm_validate_model.specs.Counted.{IsCounted, IsFuncCounted, IsItemCounted}
use Rattle.cm_validate_model.specs.CountedSpaces.{AreItemsCounted}
use Rattle.cm_validate_items.specs.Items.{fresh_at, fresh_from}
use Rattle.cm_validate_types.specs.Settled.{AreItemsSettled, IsDescSettled, WhereMoved}
use Rattle.cm_validate_entries.specs.Entries.{item_member, item_members, member_def, moved_place}
use Rattle.cm_lemmas.proofs.Numbers.{lt_true, lt_false}
use Rattle.cm_types.proofs.TypesLaws.{make_func}

-- ---- laws of the crates below

abbrev pub TypesMove : Type 0
TypesMove = (i : InstanceTy) (next : ℕ) (t : Ty) → IsCounted (i.first + i.fresh) t → moved_type i next t ≡ replaced (moved_range i.first i.fresh next) t

abbrev pub FuncsMove : Type 0
FuncsMove = (i : InstanceTy) (next : ℕ) (f : FuncTy) → IsFuncCounted (i.first + i.fresh) f → moved_func i next f ≡ replaced_func (moved_range i.first i.fresh next) f

abbrev pub TypesStay : Type 0
TypesStay = (i : InstanceTy) (next : ℕ) (t : Ty) → IsCounted i.first t → moved_type i next t ≡ t

abbrev pub TypesUnmoved : Type 0
TypesUnmoved = (t : Ty) → replaced (moved_by None) t ≡ t

abbrev pub FuncsUnmoved : Type 0
FuncsUnmoved = (f : FuncTy) → replaced_func (moved_by None) f ≡ f

pub record Laws : Type 0 where
  pub types_move : TypesMove
  pub funcs_move : FuncsMove
  pub types_stay : TypesStay
  pub types_unmoved : TypesUnmoved
  pub funcs_unmoved : FuncsUnmoved

-- ---- functions that name none of the instance's own resources stay

same_fields : (fs gs : Fields) → fields tuple_type fs ≡ fields tuple_type gs → fs ≡ gs
same_fields fs gs e = cc

result_stays : TypesStay → (i : InstanceTy) (next : ℕ) (o : Option Ty) → IfSome o (IsCounted i.first) → option_map (moved_type i next) o ≡ o
result_stays stay i next None c = refl
result_stays stay i next (Some t) c = ap Some (stay i next t c)

func_stays : TypesStay → (i : InstanceTy) (next : ℕ) (f : FuncTy) → IsFuncCounted i.first f → moved_func i next f ≡ f
func_stays stay i next f c =
    ap (λ ps. make_func ps (option_map (moved_type i next) f.result)) (same_fields (moved_fields i next f.params) f.params (stay i next (fields tuple_type f.params) c.0))
    ∙ ap (make_func f.params) (result_stays stay i next f.result c.1)

-- ---- numbers

module _ (i : InstanceTy) (next n : ℕ) (lt : n < i.first + i.fresh) where
  pub number_told : moved i next n ≡ (moved_range i.first i.fresh next (numbered n)).number
  number_told = elim (cases_lt n i.first) [
    | inl own ↦ rw (lt_true n i.first own) refl
    | inr brings ↦ rw (lt_false n i.first brings, lt-leb (i.first + i.fresh) n lt) refl
  ]

  pub id_told : moved_id i next (numbered n) ≡ moved_range i.first i.fresh next (numbered n)
  id_told = elim (cases_lt n i.first) [
    | inl own ↦ rw (lt_true n i.first own) refl
    | inr brings ↦ rw (lt_false n i.first brings, lt-leb (i.first + i.fresh) n lt) refl
  ]

-- ---- types and functions at places

module _ (laws : Laws) (types : List Ty) (funcs : List FuncTy) (items : List NamedItem) (by : Move) where
  -- the type of the instance, whose resources the import counts as it does
  abbrev ty : InstanceTy
  ty = record { items = items; first = by.first; fresh = by.count }

  type_moves : (place : ℕ) (o : Option Move) → IsCounted (by.first + by.count) (placed_type types (record { place = place; by = o })) → WhereMoved o (IsCounted by.first (placed_type types (record { place = place; by = o })))
      → moved_type ty by.next (placed_type types (record { place = place; by = o })) ≡ placed_type types (moved_place by (record { place = place; by = o }))
  type_moves place None c settled =
      laws.types_move ty by.next (replaced (moved_by None) (type_at types place)) c
      ∙ ap (replaced (moved_by (Some by))) (laws.types_unmoved (type_at types place))
  type_moves place (Some m) c settled = laws.types_stay ty by.next (replaced (moved_by (Some m)) (type_at types place)) settled

  func_moves : (place : ℕ) (o : Option Move) → IsFuncCounted (by.first + by.count) (placed_func funcs (record { place = place; by = o })) → WhereMoved o (IsFuncCounted by.first (placed_func funcs (record { place = place; by = o })))
      → moved_func ty by.next (placed_func funcs (record { place = place; by = o })) ≡ placed_func funcs (moved_place by (record { place = place; by = o }))
  func_moves place None c settled =
      laws.funcs_move ty by.next (replaced_func (moved_by None) (func_at funcs place)) c
      ∙ ap (replaced_func (moved_by (Some by))) (laws.funcs_unmoved (func_at funcs place))
  func_moves place (Some m) c settled = func_stays laws.types_stay ty by.next (replaced_func (moved_by (Some m)) (func_at funcs place)) settled

  -- ---- items

  member_told : (import number : ℕ) (d : ItemDesc) → IsItemCounted (by.first + by.count) (desc_of types funcs d) → IsDescSettled types funcs by.first d
      → member_of_item ty by.next import number (desc_of types funcs d) ≡ member_def types funcs (item_member import by number d)
  member_told import number (item.Func p) c settled = ap (λ (f : FuncTy). func_member (imported import (Some number) f)) (func_moves p.place p.by c settled)
  member_told import number (item.EqualType p) c settled = ap (λ (t : Ty). type_member (value t)) (type_moves p.place p.by c settled)
  member_told import number (item.EqualResource n) c settled = ap (λ (m : ℕ). type_member (resource m)) (number_told ty by.next n c.1)
  member_told import number (item.FreshResource n) c settled = ap (λ (m : ℕ). type_member (resource m)) (number_told ty by.next n c.1)

  pub members_told : (import next : ℕ) (xs : List Item) → AreItemsCounted (by.first + by.count) (items_of types funcs xs) → AreItemsSettled types funcs by.first xs
      → members_from ty by.next import next (items_of types funcs xs) ≡ item_members types funcs import by next xs
  members_told import next [] c settled = refl
  members_told import next (x ∷ xs) c settled =
      ap (λ (d : MemberDef). record { name = x.name; def = d } ∷ members_from ty by.next import (next + 1) (items_of types funcs xs)) (member_told import next x.desc c.0 settled.0)
      ∙ ap (λ (ms : List NamedMember). record { name = x.name; def = member_def types funcs (item_member import by next x.desc) } ∷ ms) (members_told import (next + 1) xs c.1 settled.1)

  -- ---- the type of the import

  desc_told : (d : ItemDesc) → IsItemCounted (by.first + by.count) (desc_of types funcs d) → moved_item ty by.next (desc_of types funcs d) ≡ replaced_desc (moved_by (Some by)) (desc_of types funcs d)
  desc_told (item.Func p) c = ap func_item (laws.funcs_move ty by.next (placed_func funcs p) c)
  desc_told (item.EqualType p) c = ap equal_type (laws.types_move ty by.next (placed_type types p) c)
  desc_told (item.EqualResource n) c = ap equal_resource (id_told ty by.next n c.1)
  desc_told (item.FreshResource n) c = ap fresh_resource (id_told ty by.next n c.1)

  pub items_told : (xs : List Item) → AreItemsCounted (by.first + by.count) (items_of types funcs xs)
      → map (λ (i : NamedItem). record { name = i.name; desc = moved_item ty by.next i.desc }) (items_of types funcs xs) ≡ map (replaced_item (moved_by (Some by))) (items_of types funcs xs)
  items_told [] c = refl
  items_told (x ∷ xs) c =
      ap (λ (d : ItemTy). record { name = x.name; desc = d } ∷ map (λ (i : NamedItem). record { name = i.name; desc = moved_item ty by.next i.desc }) (items_of types funcs xs)) (desc_told x.desc c.0)
      ∙ ap (λ (is : List NamedItem). record { name = x.name; desc = replaced_desc (moved_by (Some by)) (desc_of types funcs x.desc) } ∷ is) (items_told xs c.1)

-- ---- the resources that it brings

one_brought : (types : List Ty) (funcs : List FuncTy) (import number : ℕ) (d : ItemDesc) → brought_by import number (desc_of types funcs d) ≡ map (brought import) (fresh_at number d)
one_brought types funcs import number (item.Func p) = refl
one_brought types funcs import number (item.EqualType p) = refl
one_brought types funcs import number (item.EqualResource n) = refl
one_brought types funcs import number (item.FreshResource n) = refl

pub all_brought : (types : List Ty) (funcs : List FuncTy) (import next : ℕ) (xs : List Item) → brought_from import next (items_of types funcs xs) ≡ map (brought import) (fresh_from next xs)
all_brought types funcs import next [] = refl
all_brought types funcs import next (x ∷ xs) =
    ap (λ (rs : List ResourceDef). rs ++ brought_from import (next + 1) (items_of types funcs xs)) (one_brought types funcs import next x.desc)
    ∙ ap (λ (rs : List ResourceDef). map (brought import) (fresh_at next x.desc) ++ rs) (all_brought types funcs import (next + 1) xs)
    ∙ sym (map-append (brought import) (fresh_at next x.desc) (fresh_from (next + 1) xs))
