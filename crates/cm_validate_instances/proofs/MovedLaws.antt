-- What moves brought, while declarations are read.
use Rattle.std.proofs.Common.{◌≡◌, ℕ, Bool, true, false, List, [], ◌∷◌, ◌++◌, length, Option, Some, None, IfSome, sym, subst, slice_get}
use Rattle.std.specs.Prelude.{if◌then◌else◌}
use Rattle.std.specs.Borrow.{Bor}
use Rattle.std.specs.List.{AllByRecursion}
use Rattle.std.specs.Option.{option_map}
use Rattle.cm_types.specs.Types.{Ty, FuncTy}
use Rattle.cm_validate_model.specs.CountedSpaces.{IsDefCounted}
use Rattle.cm_types_arena.specs.Instances.{is_desc_there}
use Rattle.cm_types_arena.specs.declared.instances.Item.{Item}
use Rattle.cm_validate_types.specs.declared.entries.TypeEntry.{TypeEntry}
use Rattle.cm_validate_types.specs.declared.scope.TypeScope.{TypeScope}
use Rattle.cm_validate_types.specs.Entries.{def_of}
use Rattle.cm_validate_types.specs.Settled.{AreItemsSettled, IsDescSettled}
use Rattle.cm_validate_types.specs.SettledScopes.{AreMovedCounted, IsMovedCounted}
use Rattle.cm_validate_types.specs.TypeScopes.{arena_funcs, arena_types, types_around}
use Rattle.cm_validate_instances.specs.CountedAround.{AreCountedAround}
use Rattle.cm_validate_instances.specs.DeclaredItems.{items_in}
use Rattle.cm_validate_instances.proofs.PropLaws.{items_known, moved_known}
use Rattle.cm_lemmas.proofs.Lists.{all_push, got_at, all_pushed}

by_push : {A : Type 0} (P : List A → Type 0) (b : Bool) (xs ys : List A) (x : A) → ys ≡ (if b then xs ++ x ∷ [] else xs) → P xs → P (xs ++ x ∷ []) → P ys
by_push P true xs ys x e old new = subst P (sym e) new
by_push P false xs ys x e old new = subst P (sym e) old

pub around_before : (n : ℕ) (old new : TypeScope) → types_around new ≡ types_around old → AreCountedAround n new → AreCountedAround n old
around_before n old new e a = subst (AllByRecursion (IsDefCounted n)) e a

-- ---- what an index stands for

abbrev pub DefsCounted : Type 0
DefsCounted = (types : List Ty) (funcs : List FuncTy) (n : ℕ) (e : TypeEntry) → IsDefCounted n (def_of types funcs e) → IsMovedCounted types funcs n e

-- among the types around
pub around_moved : DefsCounted → (s : TypeScope) (n i : ℕ) (o : Option (Bor TypeEntry)) → option_map (λ e. def_of (arena_types s) (arena_funcs s) e.now) o ≡ slice_get (types_around s) i
    → IfSome o (λ e. AreCountedAround n s → IsMovedCounted (arena_types s) (arena_funcs s) n e.now)
around_moved law s n i None told = tt
around_moved law s n i (Some e) told = λ a. law (arena_types s) (arena_funcs s) n e.now (got_at (IsDefCounted n) (types_around s) i (def_of (arena_types s) (arena_funcs s) e.now) a (sym told))

-- and among its own
pub own_moved : (s : TypeScope) (n : ℕ) (o : Option (Bor TypeEntry)) → ∥ (AreCountedAround n s → AreMovedCounted n s) ∥₁
    → IfSome o (λ e. (m : ℕ) → AreMovedCounted m s → IsMovedCounted (arena_types s) (arena_funcs s) m e.now)
    → IfSome o (λ e. AreCountedAround n s → IsMovedCounted (arena_types s) (arena_funcs s) n e.now)
own_moved s n None known told = tt
own_moved s n (Some e) known told = λ a. told n (moved_known n s known a)

-- ---- what declarations keep of their items

abbrev pub AreThere : TypeScope → List Item → Type 0
AreThere s xs = items_in (arena_types s) (arena_funcs s) xs ≡ true

abbrev pub AreKnown : ℕ → TypeScope → List Item → Type 0
AreKnown n s xs = ∥ (AreCountedAround n s → AreItemsSettled (arena_types s) (arena_funcs s) n xs) ∥₁

-- in another scope with the same arena
module _ (s t : TypeScope) (types : arena_types t ≡ arena_types s) (funcs : arena_funcs t ≡ arena_funcs s) where
  pub there_in : (xs : List Item) → AreThere s xs → AreThere t xs
  there_in xs h = subst (λ ts. items_in ts (arena_funcs t) xs ≡ true) (sym types) (subst (λ fs. items_in (arena_types s) fs xs ≡ true) (sym funcs) h)

  settled_in : (n : ℕ) (xs : List Item) → AreItemsSettled (arena_types s) (arena_funcs s) n xs → AreItemsSettled (arena_types t) (arena_funcs t) n xs
  settled_in n xs h = subst (λ ts. AreItemsSettled ts (arena_funcs t) n xs) (sym types) (subst (λ fs. AreItemsSettled (arena_types s) fs n xs) (sym funcs) h)

  pub known_in : (n : ℕ) (xs : List Item) → types_around t ≡ types_around s → AreKnown n s xs → AreKnown n t xs
  known_in n xs around h = ∣ (λ a. settled_in n xs (items_known n s xs h (around_before n s t around a))) ∣₁

-- with one more, or without
module _ (s : TypeScope) (b : Bool) (xs ys : List Item) (x : Item) (e : ys ≡ (if b then xs ++ x ∷ [] else xs)) where
  pub there_more : AreThere s xs → is_desc_there (length (arena_types s)) (length (arena_funcs s)) x.desc ≡ true → AreThere s ys
  there_more h p = by_push (AreThere s) b xs ys x e h (all_pushed (λ (i : Item). is_desc_there (length (arena_types s)) (length (arena_funcs s)) i.desc) xs x h p)

  pub known_more : (n : ℕ) → AreKnown n s xs → (AreCountedAround n s → IsDescSettled (arena_types s) (arena_funcs s) n x.desc) → AreKnown n s ys
  known_more n h p =
      by_push (AreKnown n s) b xs ys x e h
      ∣ (λ a. all_push (λ (i : Item). IsDescSettled (arena_types s) (arena_funcs s) n i.desc) xs x (items_known n s xs h a) (p a)) ∣₁
