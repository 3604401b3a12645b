-- What moves brought into the types of a scope, while they are read.
use Rattle.std.proofs.Common.{◌≡◌, ℕ, zero, suc, Bool, true, List, [], ◌∷◌, ◌++◌, length, nat_lt, Option, Some, None, Result, Ok, Err, OnOk, OnErr, refl, sym, ap, subst, ◌∙◌}
use Rattle.std.specs.Prelude.{is_none, slice_set}
use Rattle.std.specs.List.{AllByRecursion, list_all}
use Rattle.cm_types.specs.Types.{Ty, FuncTy}
use Rattle.cm_types_arena.specs.Replaced.{replaced, replaced_func}
use Rattle.cm_types_arena.specs.declared.moves.Move.{Move}
use Rattle.cm_types_arena.specs.Instances.{are_items_there, is_desc_there}
use Rattle.cm_types_arena.specs.Placed.{moved_by, placed_func, placed_type}
use Rattle.cm_types_arena.specs.declared.placed.Placed.{Placed}
use Rattle.cm_types_arena.specs.declared.instances.Item.{Item}
use Rattle.cm_types_arena.specs.declared.instances.ItemDesc.{ItemDesc}
use Rattle.cm_types_arena.specs.declared.instances.ItemDesc.TheVariants as item
use Rattle.cm_validate_model.specs.Counted.{IsCounted, IsFuncCounted}
use Rattle.cm_validate_model.specs.CountedSpaces.{IsDefCounted}
use Rattle.cm_validate_items.specs.InstanceTypes.{instance_type_of}
use Rattle.cm_validate_types.specs.declared.entries.TypeEntry.{TypeEntry}
use Rattle.cm_validate_types.specs.declared.entries.TypeEntry.TheVariants as entry
use Rattle.cm_validate_types.specs.declared.scope.TypeScope.{TypeScope}
use Rattle.cm_validate_types.specs.Entries.{def_of, in_arena, is_entry_there}
use Rattle.cm_validate_types.specs.Settled.{AreItemsSettled, IsDescSettled, IsEntrySettled, WhereMoved}
use Rattle.cm_validate_types.specs.SettledScopes.{AreMovedCounted, AreSettled, IsMovedCounted, StaysSettled}
use Rattle.cm_validate_types.specs.TypeScopes.{Extends, HasGrown, arena_funcs, arena_types, entries_around, entries_of}
use Rattle.cm_validate_types.proofs.ScopeLaws.{func_kept, type_kept}
use Rattle.cm_lemmas.proofs.Lists.{all_push}
use Rattle.cm_lemmas.proofs.Bools.{both_left, both_right}

-- ---- lists

all_kept : {A : Type 0} (test : A → Bool) (P Q : A → Type 0) → ((x : A) → test x ≡ true → P x → Q x) → (xs : List A) → list_all test xs ≡ true → AllByRecursion P xs → AllByRecursion Q xs
all_kept test P Q keep [] h a = tt
all_kept test P Q keep (x ∷ xs) h a = (keep x (both_left (test x) (list_all test xs) h) a.0, all_kept test P Q keep xs (both_right (test x) (list_all test xs) h) a.1)

pub all_added : {A T E : Type 0} (P : A → Type 0) (xs ys : List A) (x : A) (r : Result T E) → OnOk r (ys ≡ xs ++ x ∷ []) → OnErr r (ys ≡ xs) → P x → AllByRecursion P xs → AllByRecursion P ys
all_added P xs ys x (Ok v) is kept p a = subst (AllByRecursion P) (sym is) (all_push P xs x a p)
all_added P xs ys x (Err e) is kept p a = subst (AllByRecursion P) (sym kept) a

all_set : {A : Type 0} (P : A → Type 0) (xs : List A) (i : ℕ) (x : A) → AllByRecursion P xs → P x → AllByRecursion P (slice_set xs i x)
all_set P [] i x a p = tt
all_set P (y ∷ ys) zero x a p = (p, a.1)
all_set P (y ∷ ys) (suc i) x a p = (a.0, all_set P ys i x a.1 p)

-- ---- among more types

where_on : (by : Option Move) (P Q : Type 0) → (P → Q) → WhereMoved by P → WhereMoved by Q
where_on None P Q f w = tt
where_on (Some m) P Q f w = f w

where_not : (by : Option Move) (P : Type 0) → by ≡ None → WhereMoved by P
where_not None P e = tt
where_not (Some m) P e = absurd cc

where_all : (by : Option Move) (P : Type 0) → P → WhereMoved by P
where_all None P h = tt
where_all (Some m) P h = h

module _ (t u : List Ty) (f g : List FuncTy) (p : Extends t u) (q : Extends f g) where
  type_stays : (x : Placed) (n : ℕ) → is_desc_there (length t) (length f) (item.EqualType x) ≡ true → WhereMoved x.by (IsCounted n (placed_type t x)) → WhereMoved x.by (IsCounted n (placed_type u x))
  type_stays x n h w =
      let same : placed_type t x ≡ placed_type u x = ap (replaced (moved_by x.by)) (sym (type_kept t p.0 f q.0 x.place h)) ∙ ap (λ v. placed_type v x) (sym p.1) in
      where_on x.by (IsCounted n (placed_type t x)) (IsCounted n (placed_type u x)) (subst (IsCounted n) same) w

  func_stays : (x : Placed) (n : ℕ) → is_desc_there (length t) (length f) (item.Func x) ≡ true → WhereMoved x.by (IsFuncCounted n (placed_func f x)) → WhereMoved x.by (IsFuncCounted n (placed_func g x))
  func_stays x n h w =
      let same : placed_func f x ≡ placed_func g x = ap (replaced_func (moved_by x.by)) (sym (func_kept t p.0 f q.0 x.place h)) ∙ ap (λ v. placed_func v x) (sym q.1) in
      where_on x.by (IsFuncCounted n (placed_func f x)) (IsFuncCounted n (placed_func g x)) (subst (IsFuncCounted n) same) w

  desc_stays : (n : ℕ) (d : ItemDesc) → is_desc_there (length t) (length f) d ≡ true → IsDescSettled t f n d → IsDescSettled u g n d
  desc_stays n (item.Func x) h w = func_stays x n h w
  desc_stays n (item.EqualType x) h w = type_stays x n h w
  desc_stays n (item.EqualResource r) h w = tt
  desc_stays n (item.FreshResource r) h w = tt

  pub items_settled : (n : ℕ) (xs : List Item) → are_items_there (length t) (length f) xs ≡ true → AreItemsSettled t f n xs → AreItemsSettled u g n xs
  items_settled n xs h w = all_kept (λ (i : Item). is_desc_there (length t) (length f) i.desc) (λ (i : Item). IsDescSettled t f n i.desc) (λ (i : Item). IsDescSettled u g n i.desc) (λ i. desc_stays n i.desc) xs h w

  entry_settled : (e : TypeEntry) → is_entry_there (length t) (length f) e ≡ true → IsEntrySettled t f e → IsEntrySettled u g e
  entry_settled (entry.Value x) h w = tt
  entry_settled (entry.Func x) h w = tt
  entry_settled (entry.Resource r) h w = tt
  entry_settled (entry.Instance i) h w = items_settled (instance_type_of i.value).first (instance_type_of i.value).items.items h w

  entry_moved : (n : ℕ) (e : TypeEntry) → is_entry_there (length t) (length f) e ≡ true → IsMovedCounted t f n e → IsMovedCounted u g n e
  entry_moved n (entry.Value x) h w = type_stays x n h w
  entry_moved n (entry.Func x) h w = func_stays x n (both_left (nat_lt x.place (length f)) (is_none x.by) h) w
  entry_moved n (entry.Resource r) h w = tt
  entry_moved n (entry.Instance i) h w = tt

  pub all_settled : (es : List TypeEntry) → in_arena t f es ≡ true → AllByRecursion (IsEntrySettled t f) es → AllByRecursion (IsEntrySettled u g) es
  all_settled es h w = all_kept (is_entry_there (length t) (length f)) (IsEntrySettled t f) (IsEntrySettled u g) entry_settled es h w

  pub all_moved : (n : ℕ) (es : List TypeEntry) → in_arena t f es ≡ true → AllByRecursion (IsMovedCounted t f n) es → AllByRecursion (IsMovedCounted u g n) es
  all_moved n es h w = all_kept (is_entry_there (length t) (length f)) (IsMovedCounted t f n) (IsMovedCounted u g n) (entry_moved n) es h w

-- ---- one entry

pub counted_moved : (types : List Ty) (funcs : List FuncTy) (n : ℕ) (e : TypeEntry) → IsDefCounted n (def_of types funcs e) → IsMovedCounted types funcs n e
counted_moved types funcs n (entry.Value p) c = where_all p.by (IsCounted n (placed_type types p)) c
counted_moved types funcs n (entry.Func p) c = where_all p.by (IsFuncCounted n (placed_func funcs p)) c
counted_moved types funcs n (entry.Resource r) c = tt
counted_moved types funcs n (entry.Instance i) c = tt

-- ---- scopes

-- the entries stay
pub scope_settled : (old new : TypeScope) → HasGrown old new → entries_of new ≡ entries_of old → AreSettled old → AreSettled new
scope_settled old new grown same a =
    subst (AllByRecursion (IsEntrySettled (arena_types new) (arena_funcs new))) (sym same) (all_settled (arena_types old) (arena_types new) (arena_funcs old) (arena_funcs new) grown.0 grown.1 (entries_of old) old.own_placed a)

pub stays_grown : (old new : TypeScope) → HasGrown old new → entries_of new ≡ entries_of old → entries_around new ≡ entries_around old → StaysSettled old new
stays_grown old new grown same around = record {
  settled = scope_settled old new grown same;
  moved = λ n a. subst (AllByRecursion (IsMovedCounted (arena_types new) (arena_funcs new) n)) (sym same) (all_moved (arena_types old) (arena_types new) (arena_funcs old) (arena_funcs new) grown.0 grown.1 n (entries_of old) old.own_placed a);
  around = around;
}

pub stays_on : (a b c : TypeScope) → StaysSettled a b → StaysSettled b c → StaysSettled a c
stays_on a b c p q = record {
  settled = λ s. q.settled (p.settled s);
  moved = λ n s. q.moved n (p.moved n s);
  around = q.around ∙ p.around;
}

pub stays_same : (s : TypeScope) → StaysSettled s s
stays_same s = record { settled = λ a. a; moved = λ n a. a; around = refl }

module _ (old new : TypeScope) (types : arena_types new ≡ arena_types old) (funcs : arena_funcs new ≡ arena_funcs old) (around : entries_around new ≡ entries_around old) where
  module _ (es : List TypeEntry) (is : entries_of new ≡ es) where
    settled_by : AllByRecursion (IsEntrySettled (arena_types old) (arena_funcs old)) es → AreSettled new
    settled_by a = rw (types, funcs, is) a

    moved_by_entries : (n : ℕ) → AllByRecursion (IsMovedCounted (arena_types old) (arena_funcs old) n) es → AreMovedCounted n new
    moved_by_entries n a = rw (types, funcs, is) a

  -- one in place of another
  pub stays_set : (i : ℕ) (e : TypeEntry) → entries_of new ≡ slice_set (entries_of old) i e → IsEntrySettled (arena_types old) (arena_funcs old) e → ((n : ℕ) → IsMovedCounted (arena_types old) (arena_funcs old) n e) → StaysSettled old new
  stays_set i e is s m = record {
    settled = λ a. settled_by (slice_set (entries_of old) i e) is (all_set (IsEntrySettled (arena_types old) (arena_funcs old)) (entries_of old) i e a s);
    moved = λ n a. moved_by_entries (slice_set (entries_of old) i e) is n (all_set (IsMovedCounted (arena_types old) (arena_funcs old) n) (entries_of old) i e a (m n));
    around = around;
  }

-- what no move changed
pub value_unmoved : (types : List Ty) (funcs : List FuncTy) (p : Placed) → p.by ≡ None → (n : ℕ) → IsMovedCounted types funcs n (entry.Value p)
value_unmoved types funcs p e n = where_not p.by (IsCounted n (placed_type types p)) e

pub func_unmoved : (types : List Ty) (funcs : List FuncTy) (p : Placed) → p.by ≡ None → (n : ℕ) → IsMovedCounted types funcs n (entry.Func p)
func_unmoved types funcs p e n = where_not p.by (IsFuncCounted n (placed_func funcs p)) e
