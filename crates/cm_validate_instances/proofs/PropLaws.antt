-- What is known of moves has one proof at most.
use Rattle.std.proofs.Common.{ℕ, List, Option, Some, None, IfSome}
use Rattle.std.specs.List.{AllByRecursion-prop}
use Rattle.std.specs.Coded.{×_prop, le_prop, Unit-prop}
use Rattle.std.proofs.Math.Logic.{∥∥₁_elim}
use Rattle.std.proofs.Math.Nat.{ℕ_set}
use Rattle.cm_types.specs.Types.{Ty, FuncTy, Fields, Cases, bool, signed, unsigned, char, string, list, fixed_list, fields, cases, flags, own, borrow, no_fields, field, no_cases, plain, carrying}
use Rattle.cm_types.specs.declared.resource.ResourceId.{ResourceId}
use Rattle.cm_types_arena.specs.declared.moves.Move.{Move}
use Rattle.cm_types_arena.specs.Placed.{placed_func, placed_type}
use Rattle.cm_types_arena.specs.declared.instances.Item.{Item}
use Rattle.cm_types_arena.specs.declared.instances.ItemDesc.{ItemDesc}
use Rattle.cm_types_arena.specs.declared.instances.ItemDesc.TheVariants as item
use Rattle.cm_validate_model.specs.Counted.{AreCasesCounted, AreCounted, IsCounted, IsFuncCounted, IsAmongFirst}
use Rattle.cm_validate_types.specs.declared.entries.TypeEntry.{TypeEntry}
use Rattle.cm_validate_types.specs.declared.entries.TypeEntry.TheVariants as entry
use Rattle.cm_validate_types.specs.declared.scope.TypeScope.{TypeScope}
use Rattle.cm_validate_types.specs.Settled.{AreItemsSettled, IsDescSettled, WhereMoved}
use Rattle.cm_validate_types.specs.SettledScopes.{AreMovedCounted, IsMovedCounted}
use Rattle.cm_validate_types.specs.TypeScopes.{arena_funcs, arena_types, entries_of}
use Rattle.cm_validate_instances.specs.CountedAround.{AreCountedAround}

numbered_prop : (n : ℕ) (r : ResourceId) → IsProp (IsAmongFirst n r)
numbered_prop n r = ×_prop (ℕ_set _ _) le_prop

mutual
  counted_prop : (n : ℕ) (t : Ty) → IsProp (IsCounted n t)
  counted_prop n bool = Unit-prop
  counted_prop n (signed w) = Unit-prop
  counted_prop n (unsigned w) = Unit-prop
  counted_prop n char = Unit-prop
  counted_prop n string = Unit-prop
  counted_prop n (list t) = counted_prop n t
  counted_prop n (fixed_list t k) = counted_prop n t
  counted_prop n (fields k fs) = fields_prop n fs
  counted_prop n (cases k cs) = cases_prop n cs
  counted_prop n (flags ls) = Unit-prop
  counted_prop n (own r) = numbered_prop n r
  counted_prop n (borrow r) = numbered_prop n r

  fields_prop : (n : ℕ) (fs : Fields) → IsProp (AreCounted n fs)
  fields_prop n no_fields = Unit-prop
  fields_prop n (field l t fs) = ×_prop (counted_prop n t) (fields_prop n fs)

  cases_prop : (n : ℕ) (cs : Cases) → IsProp (AreCasesCounted n cs)
  cases_prop n no_cases = Unit-prop
  cases_prop n (plain l cs) = cases_prop n cs
  cases_prop n (carrying l t cs) = ×_prop (counted_prop n t) (cases_prop n cs)

result_prop : (n : ℕ) (o : Option Ty) → IsProp (IfSome o (IsCounted n))
result_prop n None = Unit-prop
result_prop n (Some t) = counted_prop n t

func_prop : (n : ℕ) (f : FuncTy) → IsProp (IsFuncCounted n f)
func_prop n f = ×_prop (fields_prop n f.params) (result_prop n f.result)

where_prop : (by : Option Move) (P : Type 0) → IsProp P → IsProp (WhereMoved by P)
where_prop None P h = Unit-prop
where_prop (Some m) P h = h

module _ (types : List Ty) (funcs : List FuncTy) (n : ℕ) where
  desc_prop : (d : ItemDesc) → IsProp (IsDescSettled types funcs n d)
  desc_prop (item.Func p) = where_prop p.by (IsFuncCounted n (placed_func funcs p)) (func_prop n (placed_func funcs p))
  desc_prop (item.EqualType p) = where_prop p.by (IsCounted n (placed_type types p)) (counted_prop n (placed_type types p))
  desc_prop (item.EqualResource r) = Unit-prop
  desc_prop (item.FreshResource r) = Unit-prop

  entry_prop : (e : TypeEntry) → IsProp (IsMovedCounted types funcs n e)
  entry_prop (entry.Value p) = where_prop p.by (IsCounted n (placed_type types p)) (counted_prop n (placed_type types p))
  entry_prop (entry.Func p) = where_prop p.by (IsFuncCounted n (placed_func funcs p)) (func_prop n (placed_func funcs p))
  entry_prop (entry.Resource r) = Unit-prop
  entry_prop (entry.Instance i) = Unit-prop

-- so it is known where a scope or the declarations keep that there is a proof

pub moved_known : (n : ℕ) (s : TypeScope) → ∥ (AreCountedAround n s → AreMovedCounted n s) ∥₁ → AreCountedAround n s → AreMovedCounted n s
moved_known n s h a =
    ∥∥₁_elim h (AllByRecursion-prop (IsMovedCounted (arena_types s) (arena_funcs s) n) (entry_prop (arena_types s) (arena_funcs s) n) (entries_of s)) (λ f. f a)

pub items_known : (n : ℕ) (s : TypeScope) (items : List Item) → ∥ (AreCountedAround n s → AreItemsSettled (arena_types s) (arena_funcs s) n items) ∥₁ → AreCountedAround n s → AreItemsSettled (arena_types s) (arena_funcs s) n items
items_known n s items h a =
    ∥∥₁_elim h (AllByRecursion-prop (λ (i : Item). IsDescSettled (arena_types s) (arena_funcs s) n i.desc) (λ i. desc_prop (arena_types s) (arena_funcs s) n i.desc) items) (λ f. f a)
