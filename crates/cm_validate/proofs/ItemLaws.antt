-- The items that members are.
use Rattle.std.proofs.Common.{◌≡◌, ℕ, zero, suc, add-one, ◌+◌, ◌<◌, ◌≤◌, Bool, true, ◌&&◌, List, [], ◌∷◌, ◌++◌, length, map, take, get_or, Some, None, refl, sym, ap, ◌∙◌, slice_get, arith, subst, Result, Ok, Err, IfOk}
use Rattle.std.proofs.lemmas.List.{map-append, take_all, take_more}
use Rattle.std.specs.Borrow.{Bor}
use Rattle.std.specs.List.{list_all}
use Rattle.std.specs.Option.{is_some}
use Rattle.std.specs.Prelude.{not}
use Rattle.std.proofs.lemmas.Bool.{and_from}
use Rattle.cm_types.specs.Signatures.{NamedItem}
use Rattle.cm_types.specs.Types.{Ty, FuncTy}
use Rattle.cm_types_arena.specs.Replaced.{replaced, replaced_func}
use Rattle.cm_types_arena.specs.declared.moves.Move.{Move}
use Rattle.cm_types_arena.specs.Instances.{are_items_there, is_desc_there, item_of, items_of, replaced_item}
use Rattle.cm_types_arena.specs.Placed.{is_there, moved_by}
use Rattle.cm_types_arena.specs.declared.instances.Item.{Item}
use Rattle.cm_types_arena.specs.declared.instances.ItemDesc.{ItemDesc}
use Rattle.cm_types_arena.specs.declared.instances.ItemDesc.TheVariants as item
use Rattle.cm_types.specs.Signatures.{ItemTy, func_item, equal_type, equal_resource, fresh_resource}
use Rattle.cm_validate_model.specs.Declarations.{with_item}
use Rattle.cm_validate_model.specs.Spaces.{item_of_member, items_of_members}
use Rattle.cm_validate_entries.specs.Entries.{is_member_there, item_member, item_members, member_def, named_member}
use Rattle.cm_validate_entries.specs.declared.entries.FuncEntry.TheVariants as func
use Rattle.cm_validate_entries.specs.declared.entries.MemberEntry.{MemberEntry}
use Rattle.cm_validate_entries.specs.declared.entries.MemberEntry.TheVariants as member
use Rattle.cm_validate.specs.Items.{member_desc, member_item, moved_desc, moved_item}
use Rattle.cm_lemmas.proofs.Bools.{both_left, both_right}
use Rattle.cm_lemmas.proofs.Lists.{take_next}

-- ---- lists that grow by one

pub map_start : {A B : Type 0} (f : A → B) (xs : List A) → [] ≡ map f (take 0 xs)
map_start f xs = refl

pub map_next : {A B : Type 0} (f : A → B) (xs : List A) (i : ℕ) (x : A) (out : List B) → i < length xs → x ≡ get_or xs i x → out ≡ map f (take i xs) → out ++ f x ∷ [] ≡ map f (take (i + 1) xs)
map_next {A} {B} f xs i x out lt is e =
    ap (λ (ys : List B). ys ++ f x ∷ []) e
    ∙ sym (ap (map f) (take_more xs i x lt ∙ ap (λ (y : A). take i xs ++ y ∷ []) (sym is)) ∙ map-append f (take i xs) (x ∷ []))

pub map_end : {A B : Type 0} (f : A → B) (xs : List A) (i : ℕ) (out : List B) → length xs ≤ i → out ≡ map f (take i xs) → out ≡ map f xs
map_end f xs i out le e = e ∙ ap (map f) (take_all i xs le)

pub map_at : {A B : Type 0} (f : A → B) (xs : List A) (i : ℕ) (x : A) (out : List B) → slice_get xs i ≡ Some x → out ≡ map f (take i xs) → out ++ f x ∷ [] ≡ map f (take (i + 1) xs)
map_at {A} {B} f xs i x out at e =
    ap (λ (ys : List B). ys ++ f x ∷ []) e
    ∙ sym (ap (λ (k : ℕ). map f (take k xs)) (add-one i) ∙ ap (map f) (take_next xs i x at) ∙ map-append f (take i xs) (x ∷ []))

-- something stands before the end
pub before_end : {A : Type 0} (xs : List A) (i : ℕ) → i < length xs → None ≡ slice_get xs i → ⊥
before_end [] i lt e = omega (arith, lt)
before_end (x ∷ xs) zero lt e = absurd cc
before_end (x ∷ xs) (suc i) lt e = before_end xs i (omega (arith, lt)) e

-- what holds of the items that a call answers
pub if_items : {V E : Type 0} (r : Result V E) (list : V → List Item) (ys : List Item) (Q : List Item → Type 0) → Q ys → IfOk r (λ v. list v ≡ ys) → IfOk r (λ v. Q (list v))
if_items (Ok v) list ys Q q e = subst Q (sym e) q
if_items (Err x) list ys Q q e = tt

-- ---- definitions under names

desc_is : (types : List Ty) (funcs : List FuncTy) (name : List ℕ) (m : MemberEntry)
    → item_of types funcs (record { name = name; desc = member_desc m }) ∷ [] ≡ with_item [] name (item_of_member (member_def types funcs m))
desc_is types funcs name (member.Func (func.Lifted core_func ty options)) = refl
desc_is types funcs name (member.Func (func.Imported import number ty)) = refl
desc_is types funcs name (member.Value p) = refl
desc_is types funcs name (member.Resource n) = refl

pub members_are : (types : List Ty) (funcs : List FuncTy) (ms : List (Bor (List ℕ) × MemberEntry)) → items_of types funcs (map member_item ms) ≡ items_of_members (map (named_member types funcs) ms)
members_are types funcs [] = refl
members_are types funcs (m ∷ ms) =
    ap (λ (is : List NamedItem). item_of types funcs (member_item m) ∷ is) (members_are types funcs ms)
    ∙ ap (λ (is : List NamedItem). is ++ items_of_members (map (named_member types funcs) ms)) (desc_is types funcs m.0.now m.1)

desc_there : (types funcs : ℕ) (m : MemberEntry) → is_member_there types funcs m ≡ true → is_desc_there types funcs (member_desc m) ≡ true
desc_there types funcs (member.Func (func.Lifted core_func ty options)) h = both_left (is_there funcs ty) (not (is_some ty.by)) h
desc_there types funcs (member.Func (func.Imported import number ty)) h = h
desc_there types funcs (member.Value p) h = h
desc_there types funcs (member.Resource n) h = h

pub members_there : (types funcs : ℕ) (ms : List (Bor (List ℕ) × MemberEntry)) → list_all (λ e. is_member_there types funcs e.1) ms ≡ true → are_items_there types funcs (map member_item ms) ≡ true
members_there types funcs [] h = refl
members_there types funcs (m ∷ ms) h =
    and_from (is_desc_there types funcs (member_desc m.1)) (are_items_there types funcs (map member_item ms))
    (desc_there types funcs m.1 (both_left (is_member_there types funcs m.1) (list_all (λ e. is_member_there types funcs e.1) ms) h))
    (members_there types funcs ms (both_right (is_member_there types funcs m.1) (list_all (λ e. is_member_there types funcs e.1) ms) h))

-- ---- an instance that is imported

moved_is : (types : List Ty) (funcs : List FuncTy) (import : ℕ) (by : Move) (number : ℕ) (name : List ℕ) (d : ItemDesc)
    → item_of types funcs (record { name = name; desc = moved_desc by d }) ∷ [] ≡ with_item [] name (item_of_member (member_def types funcs (item_member import by number d)))
moved_is types funcs import by number name (item.Func p) = refl
moved_is types funcs import by number name (item.EqualType p) = refl
moved_is types funcs import by number name (item.EqualResource n) = refl
moved_is types funcs import by number name (item.FreshResource n) = refl

pub moved_are : (types : List Ty) (funcs : List FuncTy) (import : ℕ) (by : Move) (next : ℕ) (xs : List Item) → items_of types funcs (map (moved_item by) xs) ≡ items_of_members (item_members types funcs import by next xs)
moved_are types funcs import by next [] = refl
moved_are types funcs import by next (x ∷ xs) =
    ap (λ (is : List NamedItem). item_of types funcs (moved_item by x) ∷ is) (moved_are types funcs import by (next + 1) xs)
    ∙ ap (λ (is : List NamedItem). is ++ items_of_members (item_members types funcs import by (next + 1) xs)) (moved_is types funcs import by next x.name x.desc)

moved_desc_there : (types funcs : ℕ) (by : Move) (d : ItemDesc) → is_desc_there types funcs (moved_desc by d) ≡ is_desc_there types funcs d
moved_desc_there types funcs by (item.Func p) = refl
moved_desc_there types funcs by (item.EqualType p) = refl
moved_desc_there types funcs by (item.EqualResource n) = refl
moved_desc_there types funcs by (item.FreshResource n) = refl

pub moved_there : (types funcs : ℕ) (by : Move) (xs : List Item) → are_items_there types funcs (map (moved_item by) xs) ≡ are_items_there types funcs xs
moved_there types funcs by [] = refl
moved_there types funcs by (x ∷ xs) =
    ap (λ (b : Bool). b && are_items_there types funcs (map (moved_item by) xs)) (moved_desc_there types funcs by x.desc)
    ∙ ap (λ (b : Bool). is_desc_there types funcs x.desc && b) (moved_there types funcs by xs)

-- ---- what no import moves

module _ (types_stay : (t : Ty) → replaced (moved_by None) t ≡ t) (funcs_stay : (f : FuncTy) → replaced_func (moved_by None) f ≡ f) where
  item_stays : (name : List ℕ) (d : ItemTy) → replaced_item (moved_by None) (record { name = name; desc = d }) ≡ record { name = name; desc = d }
  item_stays name (func_item f) = ap (λ (g : FuncTy). record { name = name; desc = func_item g }) (funcs_stay f)
  item_stays name (equal_type t) = ap (λ (u : Ty). record { name = name; desc = equal_type u }) (types_stay t)
  item_stays name (equal_resource r) = refl
  item_stays name (fresh_resource r) = refl

  pub items_stay : (is : List NamedItem) → map (replaced_item (moved_by None)) is ≡ is
  items_stay [] = refl
  items_stay (i ∷ is) =
      ap (λ (js : List NamedItem). replaced_item (moved_by None) i ∷ js) (items_stay is)
      ∙ ap (λ (j : NamedItem). j ∷ is) (item_stays i.name i.desc)
