-- The types and items of an instance's type, as declarations make them.
use Rattle.std.proofs.Common.{◌≡◌, ℕ, zero, suc, ◌+◌, ◌-◌, ◌≤◌, List, [], ◌∷◌, ◌++◌, map, Option, Some, None, refl, ap, sym, ◌∙◌, subst, arith}
use Rattle.std.specs.Prelude.{IfSome, slice_get, unwrap_or}
use Rattle.std.specs.List.{AllByRecursion}
use Rattle.std.specs.Option.{option_and_then}
use Rattle.std.proofs.lemmas.List.{append-nil}
use Rattle.cm_types.specs.declared.def_types.ExportDesc.{ExportDesc}
use Rattle.cm_types.specs.declared.def_types.ExportDesc.TheVariants as desc
use Rattle.cm_types.specs.declared.def_types.TypeBound.TheVariants as bound
use Rattle.cm_types.specs.DefTypes.{DeclarationTree, type_decl, outer_type_decl, export_decl, DeclaredTypeTree, declared_value, declared_func}
use Rattle.cm_types.specs.Signatures.{ItemTy, NamedItem, func_item, equal_type, equal_resource, fresh_resource}
use Rattle.cm_validate_model.specs.Declarations.{Scope, scope_in, outer_type_of, func_in, type_in, with_item, declared_type_of, with_type, with_equal, with_fresh, with_export, after_declaration, after_declarations, instance_of, instance_defined}
use Rattle.std.proofs.lemmas.Bool.{le-ltb}
use Rattle.cm_validate_model.specs.Moves.{moved}
use Rattle.cm_validate_model.specs.Definitions.{InstanceTy, TypeDef, value, func_type, resource, instance_type, faulty}
use Rattle.cm_validate_model.specs.Counted.{IsItemCounted}
use Rattle.cm_validate_model.specs.CountedSpaces.{AreItemsCounted, fresh_of, fresh_numbers, numbers_from, IsInstanceCounted, IsDefCounted}
use Rattle.cm_validate_model.proofs.TypeLaws.{all_weaker, number_grows, grows, func_grows, value_def_counted, func_def_counted}
use Rattle.cm_lemmas.proofs.Lists.{all_both, got_there}

-- ---- more resources

pub item_grows : (n m : ℕ) → n ≤ m → (i : ItemTy) → IsItemCounted n i → IsItemCounted m i
item_grows n m le (func_item f) h = func_grows n m le f h
item_grows n m le (equal_type t) h = grows n m le t h
item_grows n m le (equal_resource r) h = number_grows n m le r h
item_grows n m le (fresh_resource r) h = number_grows n m le r h

pub items_grow : (n m : ℕ) → n ≤ m → (is : List NamedItem) → AreItemsCounted n is → AreItemsCounted m is
items_grow n m le is h = all_weaker (λ i. IsItemCounted n i.desc) (λ i. IsItemCounted m i.desc) (λ i. item_grows n m le i.desc) is h

pub def_grows : (n m : ℕ) → n ≤ m → (d : TypeDef) → IsDefCounted n d → IsDefCounted m d
def_grows n m le (value t) h = grows n m le t h
def_grows n m le (func_type f) h = func_grows n m le f h
def_grows n m le (resource k) h = omega (arith, le, h)
def_grows n m le (instance_type i) h = record { known = omega (arith, le, h.known); items = h.items; fresh = h.fresh }
def_grows n m le faulty h = h

pub defs_grow : (n m : ℕ) → n ≤ m → (ds : List TypeDef) → AllByRecursion (IsDefCounted n) ds → AllByRecursion (IsDefCounted m) ds
defs_grow n m le ds h = all_weaker (IsDefCounted n) (IsDefCounted m) (def_grows n m le) ds h

-- ---- items

abbrev IsOld : Option ItemTy → Type 0
IsOld o = IfSome o (λ d. fresh_of d ≡ [])

pub item_added : (n : ℕ) (is : List NamedItem) (name : List ℕ) (o : Option ItemTy) → AreItemsCounted n is → IfSome o (IsItemCounted n) → AreItemsCounted n (with_item is name o)
item_added n is name None h k = subst (AreItemsCounted n) (sym (append-nil is)) h
item_added n is name (Some d) h k = all_both (λ i. IsItemCounted n i.desc) is _ h (k, tt {0})

three : (a b c : List ℕ) → a ++ (b ++ c) ≡ (a ++ b) ++ c
three [] b c = refl
three (x ∷ a) b c = ap (λ l. x ∷ l) (three a b c)

pub fresh_append : (is js : List NamedItem) → fresh_numbers (is ++ js) ≡ fresh_numbers is ++ fresh_numbers js
fresh_append [] js = refl
fresh_append (i ∷ is) js = ap (λ l. fresh_of i.desc ++ l) (fresh_append is js) ∙ three (fresh_of i.desc) (fresh_numbers is) (fresh_numbers js)

old_added : (is : List NamedItem) (name : List ℕ) (o : Option ItemTy) → IsOld o → fresh_numbers (with_item is name o) ≡ fresh_numbers is
old_added is name None k = ap fresh_numbers (append-nil is)
old_added is name (Some d) k = fresh_append is _ ∙ ap (λ l. fresh_numbers is ++ (l ++ [])) k ∙ append-nil (fresh_numbers is)

one_more : (first k : ℕ) → numbers_from first (suc k) ≡ numbers_from first k ++ (first + k) ∷ []
one_more first zero = ap (λ n. n ∷ []) (omega arith)
one_more first (suc k) = ap (λ l. first ∷ l) (one_more (suc first) k ∙ ap (λ n. numbers_from (suc first) k ++ n ∷ []) (omega arith))

-- ---- a scope

record Counted (first : ℕ) (s : Scope) : Type 0 where
  count : ℕ
  next : s.next ≡ first + count
  types : AllByRecursion (IsDefCounted s.next) s.types
  around : AllByRecursion (IsDefCounted first) s.around
  items : AreItemsCounted s.next s.items
  fresh : fresh_numbers s.items ≡ numbers_from first count

or_faulty : (n : ℕ) (o : Option TypeDef) → IfSome o (IsDefCounted n) → IsDefCounted n (unwrap_or o faulty)
or_faulty n None h = tt {0}
or_faulty n (Some d) h = h

some_grows : (n m : ℕ) → n ≤ m → (o : Option TypeDef) → IfSome o (IsDefCounted n) → IfSome o (IsDefCounted m)
some_grows n m le None h = h
some_grows n m le (Some d) h = def_grows n m le d h

declared_counted : (n : ℕ) (types : List TypeDef) (d : DeclaredTypeTree) → AllByRecursion (IsDefCounted n) types → IsDefCounted n (declared_type_of types d)
declared_counted n types (declared_value v) h = value_def_counted n types h v
declared_counted n types (declared_func f) h = func_def_counted n types h f

outer_counted : (first : ℕ) (s : Scope) → Counted first s → (count index : ℕ) → IfSome (outer_type_of s count index) (IsDefCounted s.next)
outer_counted first s c zero index = got_there (IsDefCounted s.next) s.types index c.types
outer_counted first s c (suc zero) index =
    let le : first ≤ s.next = omega (arith, c.next) in
    some_grows first s.next le (slice_get s.around index) (got_there (IsDefCounted first) s.around index c.around)
outer_counted first s c (suc (suc k)) index = tt {0}

func_is_counted : (n : ℕ) (o : Option TypeDef) → IfSome o (IsDefCounted n) → IfSome (option_and_then func_in o) (IsItemCounted n)
func_is_counted n None h = tt {0}
func_is_counted n (Some (value t)) h = tt {0}
func_is_counted n (Some (func_type f)) h = h
func_is_counted n (Some (resource k)) h = tt {0}
func_is_counted n (Some (instance_type i)) h = tt {0}
func_is_counted n (Some faulty) h = tt {0}

func_is_old : (o : Option TypeDef) → IsOld (option_and_then func_in o)
func_is_old None = tt {0}
func_is_old (Some (value t)) = tt {0}
func_is_old (Some (func_type f)) = refl
func_is_old (Some (resource k)) = tt {0}
func_is_old (Some (instance_type i)) = tt {0}
func_is_old (Some faulty) = tt {0}

pub type_is_counted : (n : ℕ) (d : TypeDef) → IsDefCounted n d → IfSome (type_in d) (IsItemCounted n)
type_is_counted n (value t) h = h
type_is_counted n (func_type f) h = tt {0}
type_is_counted n (resource k) h = (refl, h)
type_is_counted n (instance_type i) h = tt {0}
type_is_counted n faulty h = tt {0}

type_is_old : (d : TypeDef) → IsOld (type_in d)
type_is_old (value t) = refl
type_is_old (func_type f) = tt {0}
type_is_old (resource k) = refl
type_is_old (instance_type i) = tt {0}
type_is_old faulty = tt {0}

-- ---- declarations

type_added : (first : ℕ) (s : Scope) (d : TypeDef) → Counted first s → IsDefCounted s.next d → Counted first (with_type s d)
type_added first s d c h =
    record {
      count = c.count;
      next = c.next;
      types = all_both (IsDefCounted s.next) s.types (d ∷ []) c.types (h, tt {0});
      around = c.around;
      items = c.items;
      fresh = c.fresh;
    }

func_exported : (first : ℕ) (s : Scope) (name : List ℕ) (i : ℕ) → Counted first s → Counted first (with_export s name (desc.Func i))
func_exported first s name i c =
    record {
      count = c.count;
      next = c.next;
      types = c.types;
      around = c.around;
      items = item_added s.next s.items name (option_and_then func_in (slice_get s.types i)) c.items
          (func_is_counted s.next (slice_get s.types i) (got_there (IsDefCounted s.next) s.types i c.types));
      fresh = old_added s.items name (option_and_then func_in (slice_get s.types i)) (func_is_old (slice_get s.types i)) ∙ c.fresh;
    }

equal_exported : (first : ℕ) (s : Scope) (name : List ℕ) (d : TypeDef) → Counted first s → IsDefCounted s.next d → Counted first (with_equal s name d)
equal_exported first s name d c h =
    record {
      count = c.count;
      next = c.next;
      types = all_both (IsDefCounted s.next) s.types (d ∷ []) c.types (h, tt {0});
      around = c.around;
      items = item_added s.next s.items name (type_in d) c.items (type_is_counted s.next d h);
      fresh = old_added s.items name (type_in d) (type_is_old d) ∙ c.fresh;
    }

fresh_exported : (first : ℕ) (s : Scope) (name : List ℕ) → Counted first s → Counted first (with_fresh s name)
fresh_exported first s name c =
    record {
      count = suc c.count;
      next = omega (arith, c.next);
      types = all_both (IsDefCounted (s.next + 1)) s.types _ (defs_grow s.next (s.next + 1) (omega arith) s.types c.types) (omega arith, tt {0});
      around = c.around;
      items = all_both (λ i. IsItemCounted (s.next + 1) i.desc) s.items _ (items_grow s.next (s.next + 1) (omega arith) s.items c.items) ((refl, omega arith), tt {0});
      fresh = fresh_append s.items _ ∙ ap (λ l. l ++ s.next ∷ []) c.fresh ∙ ap (λ n. numbers_from first c.count ++ n ∷ []) c.next ∙ sym (one_more first c.count);
    }

exported_one : (first : ℕ) (s : Scope) → Counted first s → (name : List ℕ) (d : ExportDesc) → Counted first (with_export s name d)
exported_one first s c name (desc.Func i) = func_exported first s name i c
exported_one first s c name (desc.Type (bound.Equal i)) =
    equal_exported first s name (unwrap_or (slice_get s.types i) faulty) c (or_faulty s.next (slice_get s.types i) (got_there (IsDefCounted s.next) s.types i c.types))
exported_one first s c name (desc.Type bound.SubResource) = fresh_exported first s name c

declared_one : (first : ℕ) (s : Scope) (d : DeclarationTree) → Counted first s → Counted first (after_declaration s d)
declared_one first s (type_decl t) c = type_added first s (declared_type_of s.types t) c (declared_counted s.next s.types t c.types)
declared_one first s (outer_type_decl o) c =
    type_added first s (unwrap_or (outer_type_of s o.count o.index) faulty) c (or_faulty s.next (outer_type_of s o.count o.index) (outer_counted first s c o.count o.index))
declared_one first s (export_decl e) c = exported_one first s c e.name e.desc

declared_all : (first : ℕ) (s : Scope) (ds : List DeclarationTree) → Counted first s → Counted first (after_declarations s ds)
declared_all first s [] c = c
declared_all first s (d ∷ ds) c = declared_all first (after_declaration s d) ds (declared_one first s d c)

at_first : (types : List TypeDef) (next : ℕ) → AllByRecursion (IsDefCounted next) types → Counted next (scope_in types next)
at_first types next h = record { count = 0; next = omega arith; types = tt {0}; around = h; items = tt {0}; fresh = refl }

from_scope : (first : ℕ) (s : Scope) → Counted first s → (n : ℕ) → first ≤ n → IsInstanceCounted n (instance_of first s)
from_scope first s c n le =
    let so_many : s.next - first ≡ c.count = omega (arith, c.next) in
    let whole : s.next ≡ first + (s.next - first) = omega (arith, c.next) in
    record {
      known = le;
      items = subst (λ k. AreItemsCounted k s.items) whole c.items;
      fresh = c.fresh ∙ ap (numbers_from first) (sym so_many);
    }

pub instance_counted : (types : List TypeDef) (next : ℕ) (ds : List DeclarationTree) → AllByRecursion (IsDefCounted next) types → (n : ℕ) → next ≤ n → IsInstanceCounted n (instance_defined types next ds)
instance_counted types next ds h n le = from_scope next (after_declarations (scope_in types next) ds) (declared_all next (scope_in types next) ds (at_first types next h)) n le

-- ---- the resources that an import brings

one_number : (i : InstanceTy) (next k : ℕ) → moved i next (i.first + k) ≡ next + k
one_number i next k = rw (le-ltb (i.first + k) i.first (omega arith)) (omega arith)

numbers_moved : (i : InstanceTy) (next k m : ℕ) → map (moved i next) (numbers_from (i.first + k) m) ≡ numbers_from (next + k) m
numbers_moved i next k zero = refl
numbers_moved i next k (suc m) =
    ap (λ x. x ∷ map (moved i next) (numbers_from (suc (i.first + k)) m)) (one_number i next k)
    ∙ ap (λ x. (next + k) ∷ map (moved i next) (numbers_from x m)) (omega arith)
    ∙ ap (λ l. (next + k) ∷ l) (numbers_moved i next (suc k) m)
    ∙ ap (λ x. (next + k) ∷ numbers_from x m) (omega arith)

pub fresh_moved : (n : ℕ) (i : InstanceTy) (next : ℕ) → IsInstanceCounted n i → map (moved i next) (fresh_numbers i.items) ≡ numbers_from next i.fresh
fresh_moved n i next h =
    ap (map (moved i next)) (h.fresh ∙ ap (λ x. numbers_from x i.fresh) (omega arith))
    ∙ numbers_moved i next 0 i.fresh
    ∙ ap (λ x. numbers_from x i.fresh) (omega arith)
