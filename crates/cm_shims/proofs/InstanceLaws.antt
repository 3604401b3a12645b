-- An instance of a shim keeps its items in the plain component.
use Rattle.std.proofs.Common.{◌≡◌, ◌∙◌, ℕ, zero, suc, ◌+◌, ◌<◌, ◌≤◌, max, List, [], ◌∷◌, ◌++◌, length, map, get_or, slice_get, Option, Some, None, Result, Ok, Err, refl, sym, ap, subst, arith, inl, inr, append_assoc, append-nil, option_to_list, flat_map}
use Rattle.std.specs.Option.{option_and_then, option_map}
use Rattle.std.specs.Result.{result_ok}
use Rattle.std.proofs.lemmas.Bool.{cases_lt}
use Rattle.std.proofs.lemmas.List.{length-append, length-map, map_push, get_or_past}
use Rattle.std.proofs.lemmas.Option.{slice_get_past, slice_get_within, slice_get-map, get_or_from_slice_get, slice_get-get_or}
use Rattle.cm_binary_grammar.specs.Faults.{and_then}
use Rattle.cm_types.specs.declared.def_types.ExportDesc.{ExportDesc}
use Rattle.cm_types.specs.declared.def_types.ExportDesc.TheVariants as descs
use Rattle.cm_types.specs.declared.def_types.TypeBound.TheVariants as bounds
use Rattle.cm_types.specs.DefTypes.{DefTypeTree, value_def, func_def, resource_def, instance_def}
use Rattle.cm_binary_model.specs.declared.instances.InlineExport.{InlineExport}
use Rattle.cm_binary_model.specs.declared.instances.InstanceExportSort.{InstanceExportSort}
use Rattle.cm_binary_model.specs.declared.instances.InstanceExportSort.TheVariants as sorts
use Rattle.cm_binary_model.specs.Trees as sections
use Rattle.cm_binary_model.specs.Trees.{SectionTree}
use Rattle.cm_validate_model.specs.Definitions.{TypeDef, FuncDef, MemberDef, func_member, type_member, NamedMember}
use Rattle.cm_validate_model.specs.Items.{Item, type_item}
use Rattle.cm_validate_model.specs.Spaces.{Spaces, after_item, after_items, def_of, member_at, named_member}
use Rattle.cm_shims_plain.specs.declared.parts.ShimExport.{ShimExport}
use Rattle.cm_shims_plain.specs.declared.parts.ShimImport.{ShimImport}
use Rattle.cm_shims_plain.specs.Trees as trees
use Rattle.cm_shims_plain.specs.Trees.{ShimSectionTree}
use Rattle.cm_shims_plain.specs.declared.fault.ShimReason.{ShimReason}
use Rattle.cm_shims_plain.specs.declared.wants.Want.{Want}
use Rattle.cm_shims_plain.specs.Instantiated.{Given, Instantiated, argument, type_at, func_at, type_argument, imported, import_step, type_step, with_ascribed, exported, export_step, shared_step, shim_step, instantiated, instantiating}
use Rattle.cm_shims_plain.specs.Renumbered.{copied, renumbered_def}
use Rattle.cm_shims_plain.specs.Spaces.{place}
use Rattle.cm_shims_plain.specs.Steps.{each, or_reason}
use Rattle.cm_shims.specs.Meanings.{AgreeAt, Own, nothing, and_type, and_func, and_item, func_given, type_given, own_import, import_own, stands_for, type_own, own_export, export_own, each_own, shared_own, section_own, own_instance, items_behind}
use Rattle.cm_shims.proofs.HeadLaws.{head_is}
use Rattle.cm_shims.proofs.MeaningLaws.{value_stands, func_stands}
use Rattle.cm_lemmas.proofs.Equations.{ok_is}
use Rattle.cm_lemmas.proofs.Lists.{one_longer}
use Rattle.cm_lemmas.proofs.Options.{none_some, some_is}
use Rattle.cm_lemmas.proofs.Results.{ok_of}
use Rattle.cm_lemmas.proofs.Lists.{get_last as at_end}

-- ---- what an answer rests on

record Before {A B E : Type 0} (r : Result A E) (k : A → Result B E) (t : B) : Type 0 where
  value : A
  was : r ≡ Ok value
  then : k value ≡ Ok t

before : {A B E : Type 0} (r : Result A E) (k : A → Result B E) (t : B) → and_then r k ≡ Ok t → Before r k t
before (Ok x) k t h = record { value = x; was = refl; then = h }
before (Err e) k t h = absurd cc

some_of : {A : Type 0} (reason : ShimReason) (o : Option A) (x : A) → or_reason reason o ≡ Ok x → o ≡ Some x
some_of reason (Some y) x h = ap Some (ok_is ShimReason y x h)
some_of reason None x h = absurd cc

record Mapped {A B : Type 0} (f : A → B) (o : Option A) (y : B) : Type 0 where
  value : A
  was : o ≡ Some value
  is : f value ≡ y

mapped : {A B : Type 0} (f : A → B) (o : Option A) (y : B) → option_map f o ≡ Some y → Mapped f o y
mapped f (Some x) y h = record { value = x; was = refl; is = some_is (f x) y h }
mapped f None y h = none_some y h

record Chained {A B : Type 0} (f : A → Option B) (o : Option A) (y : B) : Type 0 where
  value : A
  was : o ≡ Some value
  is : f value ≡ Some y

chained : {A B : Type 0} (f : A → Option B) (o : Option A) (y : B) → option_and_then f o ≡ Some y → Chained f o y
chained f (Some x) y h = record { value = x; was = refl; is = h }
chained f None y h = none_some y h

-- ---- lists whose members are there

still_there : {A : Type 0} (xs ys : List A) (i : ℕ) (x : A) → slice_get xs i ≡ Some x → slice_get (xs ++ ys) i ≡ Some x
still_there [] ys i x h = none_some x h
still_there (y ∷ xs) ys zero x h = h
still_there (y ∷ xs) ys (suc i) x h = still_there xs ys i x h

no_list : {A P : Type 0} (x : A) (xs : List A) → [] ≡ x ∷ xs → P
no_list x xs e = absurd cc

-- each of xs gives the one of ys at its place
abbrev Give : {A B : Type 0} → (A → Option B) → List A → List B → Type 0
Give f xs ys = map f xs ≡ map Some ys

give_more : {A B : Type 0} (f : A → Option B) (xs : List A) (ys : List B) (x : A) (y : B) → Give f xs ys → f x ≡ Some y → Give f (xs ++ x ∷ []) (ys ++ y ∷ [])
give_more f xs ys x y h e = map_push f xs x ∙ (rw (h, e) (sym (map_push Some ys y)))

tail_is : {A : Type 0} (x y : A) (xs ys : List A) → x ∷ xs ≡ y ∷ ys → xs ≡ ys
tail_is x y xs ys h = cc

give_still : {A B : Type 0} (f g : A → Option B) → ((x : A) (y : B) → f x ≡ Some y → g x ≡ Some y) → (xs : List A) (ys : List B) → Give f xs ys → Give g xs ys
give_still f g k [] [] h = refl
give_still f g k [] (y ∷ ys) h = no_list (Some y) (map Some ys) h
give_still f g k (x ∷ xs) [] h = no_list (f x) (map f xs) (sym h)
give_still f g k (x ∷ xs) (y ∷ ys) h =
    rw (k x y (head_is (f x) (Some y) (map f xs) (map Some ys) h), give_still f g k xs ys (tail_is (f x) (Some y) (map f xs) (map Some ys) h)) refl

give_length : {A B : Type 0} (f : A → Option B) (xs : List A) (ys : List B) → Give f xs ys → length xs ≡ length ys
give_length f [] [] h = refl
give_length f [] (y ∷ ys) h = no_list (Some y) (map Some ys) h
give_length f (x ∷ xs) [] h = no_list (f x) (map f xs) (sym h)
give_length f (x ∷ xs) (y ∷ ys) h = ap suc (give_length f xs ys (tail_is (f x) (Some y) (map f xs) (map Some ys) h))

give_at : {A B : Type 0} (f : A → Option B) (xs : List A) (ys : List B) (i : ℕ) (x : A) → Give f xs ys → slice_get xs i ≡ Some x → f x ≡ slice_get ys i
give_at f [] ys i x h e = none_some x e
give_at f (z ∷ xs) [] i x h e = no_list (f z) (map f xs) (sym h)
give_at f (z ∷ xs) (y ∷ ys) zero x h e = ap f (sym (some_is z x e)) ∙ head_is (f z) (Some y) (map f xs) (map Some ys) h
give_at f (z ∷ xs) (y ∷ ys) (suc i) x h e = give_at f xs ys i x (tail_is (f z) (Some y) (map f xs) (map Some ys) h) e

given_all : {A B : Type 0} (f : A → Option B) (xs : List A) (ys : List B) → Give f xs ys → flat_map (λ x. option_to_list (f x)) xs ≡ ys
given_all f [] [] h = refl
given_all f [] (y ∷ ys) h = no_list (Some y) (map Some ys) h
given_all f (x ∷ xs) [] h = no_list (f x) (map f xs) (sym h)
given_all f (x ∷ xs) (y ∷ ys) h = rw (head_is (f x) (Some y) (map f xs) (map Some ys) h, given_all f xs ys (tail_is (f x) (Some y) (map f xs) (map Some ys) h)) refl

front_off : {A : Type 0} (xs ys zs : List A) → xs ++ ys ≡ xs ++ zs → ys ≡ zs
front_off [] ys zs h = h
front_off (x ∷ xs) ys zs h = front_off xs ys zs (tail_is x x (xs ++ ys) (xs ++ zs) h)

-- ---- the component behind types

abbrev behind : Spaces → List DefTypeTree → Spaces
behind s made = after_items s (map type_item made)

after_more : (s : Spaces) (items : List Item) (x : Item) → after_items s (items ++ x ∷ []) ≡ after_item (after_items s items) x
after_more s [] x = refl
after_more s (y ∷ items) x = after_more (after_item s y) items x

behind_more : (s : Spaces) (made : List DefTypeTree) (d : DefTypeTree) → behind s (made ++ d ∷ []) ≡ after_item (behind s made) (type_item d)
behind_more s made d = ap (after_items s) (map_push type_item made d) ∙ after_more s (map type_item made) (type_item d)

funcs_behind : (s : Spaces) (made : List DefTypeTree) → (behind s made).funcs ≡ s.funcs
funcs_behind s [] = refl
funcs_behind s (d ∷ made) = funcs_behind (after_item s (type_item d)) made ∙ append-nil s.funcs

old_behind : (s : Spaces) (made : List DefTypeTree) (i : ℕ) (t : TypeDef) → slice_get s.types i ≡ Some t → slice_get (behind s made).types i ≡ Some t
old_behind s [] i t h = h
old_behind s (d ∷ made) i t h = old_behind (after_item s (type_item d)) made i t (still_there s.types (def_of s d ∷ []) i t h)

-- an export, with what it names
abbrev named : List ℕ → MemberDef → NamedMember
named name d = record { name = name; def = d }

member : Spaces → InlineExport → Option NamedMember
member s e = option_map (named e.name) (member_at s e.sort e.index)

member_of : (s : Spaces) (name : List ℕ) (sort : InstanceExportSort) (i : ℕ) (d : MemberDef) → member_at s sort i ≡ Some d → member s (record { name = name; sort = sort; index = i }) ≡ Some (record { name = name; def = d })
unfolding member
member_of s name sort i d h = ap (option_map (named name)) h

member_still : (s : Spaces) (d : DefTypeTree) (sort : InstanceExportSort) (i : ℕ) (m : MemberDef) → member_at s sort i ≡ Some m → member_at (after_item s (type_item d)) sort i ≡ Some m
member_still s d sorts.Func i m h = ap (λ (fs : List FuncDef). option_map func_member (slice_get fs i)) (append-nil s.funcs) ∙ h
member_still s d sorts.Type i m h =
    let a = mapped type_member (slice_get s.types i) m h in
    ap (option_map type_member) (still_there s.types (def_of s d ∷ []) i a.value a.was) ∙ ap Some a.is

named_still : (s : Spaces) (d : DefTypeTree) (e : InlineExport) (m : NamedMember) → member s e ≡ Some m → member (after_item s (type_item d)) e ≡ Some m
unfolding member
named_still s d e m h =
    let a = mapped (named e.name) (member_at s e.sort e.index) m h in
    ap (option_map (named e.name)) (member_still s d e.sort e.index a.value a.was) ∙ ap Some a.is

-- ---- as far as the shim was gone through

record Keeps (s : Spaces) (first : List DefTypeTree) (t : Instantiated) (o : Own) : Type 0 where
  new : List DefTypeTree
  made : t.made ≡ first ++ new
  count : length (behind s new).types ≡ t.types.count
  types : Give (slice_get (behind s new).types) t.types.places o.types
  funcs : Give (slice_get s.funcs) t.funcs o.funcs
  items : Give (member (behind s new)) t.exports o.items

agree : (s : Spaces) (first : List DefTypeTree) (t : Instantiated) (o : Own) (k : Keeps s first t o) → AgreeAt (place t.types) o.types (behind s k.new).types
agree s first t o k = λ i.
    elim (cases_lt i (length t.types.places)) [
      | inl lt ↦
          let here = slice_get-get_or t.types.places i (max i t.types.count) lt in
          give_at (slice_get (behind s k.new).types) t.types.places o.types i _ k.types here
      | inr le ↦
          let none = get_or_past t.types.places i (max i t.types.count) le in
          rw none (slice_get_past (behind s k.new).types (max i t.types.count) (omega (arith, k.count)) ∙ sym (slice_get_past o.types i (omega (arith, le, give_length _ t.types.places o.types k.types))))
    ]

same : (s : Spaces) (first : List DefTypeTree) (t u : Instantiated) (o p : Own) → ok_of ShimReason t ≡ ok_of ShimReason u → o ≡ p → Keeps s first t o → Keeps s first u p
same s first t u o p h e k = subst (λ (x : Own). Keeps s first u x) e (subst (λ (x : Instantiated). Keeps s first x o) (ok_is ShimReason t u h) k)

from_result : {A B : Type 0} (f : A → Option B) (r : Result A ShimReason) (x : A) (y : B) → r ≡ Ok x → option_and_then f (result_ok r) ≡ Some y → f x ≡ Some y
from_result f (Ok z) x y a b = subst (λ w. f w ≡ Some y) (ok_is ShimReason z x a) b
from_result f (Err e) x y a b = absurd cc

type_there : (s : Spaces) (first : List DefTypeTree) (t : Instantiated) (o : Own) (g : Given) (name : List ℕ) (p : ℕ) (d : TypeDef) (k : Keeps s first t o) → type_argument g name ≡ Ok p → type_given s g name ≡ Some d → slice_get (behind s k.new).types p ≡ Some d
type_there s first t o g name p d k a b = old_behind s k.new p d (from_result (slice_get s.types) (type_argument g name) p d a b)

func_there : (s : Spaces) (g : Given) (name : List ℕ) (f : ℕ) (d : FuncDef) → argument g.args sorts.Func name ≡ Ok f → func_given s g name ≡ Some d → slice_get s.funcs f ≡ Some d
func_there s g name f d a b = from_result (slice_get s.funcs) (argument g.args sorts.Func name) f d a b

with_type_kept : (s : Spaces) (first : List DefTypeTree) (t : Instantiated) (o : Own) (wants : List Want) (p : ℕ) (d : TypeDef) (k : Keeps s first t o) → slice_get (behind s k.new).types p ≡ Some d → Keeps s first (record { types = record { places = t.types.places ++ p ∷ []; count = t.types.count }; funcs = t.funcs; made = t.made; exports = t.exports; wants = wants }) (and_type o d)
with_type_kept s first t o wants p d k h = record { new = k.new; made = k.made; count = k.count; types = give_more _ t.types.places o.types p d k.types h; funcs = k.funcs; items = k.items }

with_func_kept : (s : Spaces) (first : List DefTypeTree) (t : Instantiated) (o : Own) (wants : List Want) (f : ℕ) (d : FuncDef) (k : Keeps s first t o) → slice_get s.funcs f ≡ Some d → Keeps s first (record { types = t.types; funcs = t.funcs ++ f ∷ []; made = t.made; exports = t.exports; wants = wants }) (and_func o d)
with_func_kept s first t o wants f d k h = record { new = k.new; made = k.made; count = k.count; types = k.types; funcs = give_more _ t.funcs o.funcs f d k.funcs h; items = k.items }

import_keeps : (s : Spaces) (first : List DefTypeTree) (g : Given) (t u : Instantiated) (o p : Own) (name : List ℕ) (d : ExportDesc) → Keeps s first t o → imported g t name d ≡ Ok u → own_import s g o name d ≡ Some p → Keeps s first u p
import_keeps s first g t u o p name (descs.Func ty) k h e =
    let a = before (argument g.args sorts.Func name) _ u h in
    let b = before (type_at t.types.places ty) _ u a.then in
    let m = mapped (and_func o) (func_given s g name) p e in
    same s first _ u _ p b.then m.is (with_func_kept s first t o _ a.value m.value k (func_there s g name a.value m.value a.was m.was))
import_keeps s first g t u o p name (descs.Type (bounds.Equal ty)) k h e =
    let a = before (type_argument g name) _ u h in
    let b = before (type_at t.types.places ty) _ u a.then in
    let m = mapped (and_type o) (type_given s g name) p e in
    same s first _ u _ p b.then m.is (with_type_kept s first t o _ a.value m.value k (type_there s first t o g name a.value m.value k a.was m.was))
import_keeps s first g t u o p name (descs.Type bounds.SubResource) k h e =
    let a = before (type_argument g name) _ u h in
    let m = mapped (and_type o) (type_given s g name) p e in
    same s first _ u _ p a.then m.is (with_type_kept s first t o _ a.value m.value k (type_there s first t o g name a.value m.value k a.was m.was))

-- one more type, which stands for the same
define_keeps : (s : Spaces) (first : List DefTypeTree) (t : Instantiated) (o : Own) (d : DefTypeTree) (x : TypeDef) (k : Keeps s first t o) → def_of (behind s k.new) d ≡ x → Keeps s first (record { types = record { places = t.types.places ++ t.types.count ∷ []; count = t.types.count + 1 }; funcs = t.funcs; made = t.made ++ d ∷ []; exports = t.exports; wants = t.wants }) (and_type o x)
define_keeps s first t o d x k h =
    let was = behind s k.new in
    let def = def_of was d in
    let types = was.types ++ def ∷ [] in
    let grown = behind_more s k.new d in
    let one : length types ≡ t.types.count + 1 = omega (arith, one_longer was.types def, k.count) in
    let there : slice_get types t.types.count ≡ Some x = subst (λ (n : ℕ). slice_get types n ≡ Some x) k.count (at_end was.types def ∙ ap Some h) in
    let stay = give_still (slice_get was.types) (slice_get types) (λ i y e. still_there was.types (def ∷ []) i y e) t.types.places o.types k.types in
    record {
      new = k.new ++ d ∷ [];
      made = ap (λ (xs : List DefTypeTree). xs ++ d ∷ []) k.made ∙ append_assoc first k.new (d ∷ []);
      count = ap (λ (w : Spaces). length w.types) grown ∙ one;
      types = subst (λ (w : Spaces). Give (slice_get w.types) (t.types.places ++ t.types.count ∷ []) (o.types ++ x ∷ [])) (sym grown) (give_more (slice_get types) t.types.places o.types t.types.count x stay there);
      funcs = k.funcs;
      items = subst (λ (w : Spaces). Give (member w) t.exports o.items) (sym grown) (give_still (member was) (member (after_item was (type_item d))) (named_still was d) t.exports o.items k.items);
    }

type_keeps : (s : Spaces) (first : List DefTypeTree) (t u : Instantiated) (o p : Own) (d : DefTypeTree) → Keeps s first t o → type_step t d ≡ Ok u → type_own o d ≡ Some p → Keeps s first u p
type_keeps s first t u o p (value_def v) k h e =
    let x = value_stands (place t.types) o.types (behind s k.new).types (agree s first t o k) v in
    same s first _ u _ p h (some_is _ p e) (define_keeps s first t o (renumbered_def (place t.types) (value_def v)) _ k x)
type_keeps s first t u o p (func_def f) k h e =
    let x = func_stands (place t.types) o.types (behind s k.new).types (agree s first t o k) f in
    same s first _ u _ p h (some_is _ p e) (define_keeps s first t o (renumbered_def (place t.types) (func_def f)) _ k x)
type_keeps s first t u o p (resource_def destructor) k h e = none_some p e
type_keeps s first t u o p (instance_def ds) k h e = none_some p e

with_item_kept : (s : Spaces) (first : List DefTypeTree) (t : Instantiated) (o : Own) (wants : List Want) (name : List ℕ) (sort : InstanceExportSort) (i : ℕ) (m : MemberDef) (k : Keeps s first t o) → member_at (behind s k.new) sort i ≡ Some m → Keeps s first (record { types = t.types; funcs = t.funcs; made = t.made; exports = t.exports ++ record { name = name; sort = sort; index = i } ∷ []; wants = wants }) (and_item o name m)
with_item_kept s first t o wants name sort i m k h = record { new = k.new; made = k.made; count = k.count; types = k.types; funcs = k.funcs; items = give_more _ t.exports o.items _ _ k.items (member_of (behind s k.new) name sort i m h) }

wanted_kept : (s : Spaces) (first : List DefTypeTree) (t u : Instantiated) (o : Own) (f : ℕ) (ty : Option ℕ) → Keeps s first t o → with_ascribed f ty t ≡ Ok u → Keeps s first u o
wanted_kept s first t u o f None k h = same s first t u o o h refl k
wanted_kept s first t u o f (Some ty) k h =
    let a = before (type_at t.types.places ty) _ u h in
    same s first _ u o o a.then refl (record { new = k.new; made = k.made; count = k.count; types = k.types; funcs = k.funcs; items = k.items })

type_kept : (s : Spaces) (first : List DefTypeTree) (t u : Instantiated) (o p : Own) (name : List ℕ) (i : ℕ) (ty : Option ℕ) → Keeps s first t o → exported t name sorts.Type i ty ≡ Ok u → own_export o name sorts.Type i ≡ Some p → Keeps s first u p
unfolding with_item_kept
type_kept s first t u o p name i ty k h e =
    let a = before (type_at t.types.places i) _ u h in
    let m = mapped (λ (x : TypeDef). and_type (and_item o name (type_member x)) x) (slice_get o.types i) p e in
    let known : slice_get (behind s k.new).types a.value ≡ Some m.value = give_at _ t.types.places o.types i a.value k.types (some_of _ _ a.value a.was) ∙ m.was in
    let there : member_at (behind s k.new) sorts.Type a.value ≡ Some (type_member m.value) = ap (option_map type_member) known in
    same s first _ u _ p a.then m.is (with_type_kept s first (record { types = t.types; funcs = t.funcs; made = t.made; exports = t.exports ++ record { name = name; sort = sorts.Type; index = a.value } ∷ []; wants = t.wants }) (and_item o name (type_member m.value)) t.wants a.value m.value (with_item_kept s first t o t.wants name sorts.Type a.value (type_member m.value) k there) known)

export_keeps : (s : Spaces) (first : List DefTypeTree) (t u : Instantiated) (o p : Own) (name : List ℕ) (sort : InstanceExportSort) (i : ℕ) (ty : Option ℕ) → Keeps s first t o → exported t name sort i ty ≡ Ok u → own_export o name sort i ≡ Some p → Keeps s first u p
export_keeps s first t u o p name sorts.Func i ty k h e =
    let a = before (func_at t.funcs i) _ u h in
    let b = before (with_ascribed a.value ty t) _ u a.then in
    let m = mapped (λ (f : FuncDef). and_func (and_item o name (func_member f)) f) (slice_get o.funcs i) p e in
    let kept = wanted_kept s first t b.value o a.value ty k b.was in
    let func : slice_get s.funcs a.value ≡ Some m.value = give_at (slice_get s.funcs) t.funcs o.funcs i a.value k.funcs (some_of _ _ a.value a.was) ∙ m.was in
    let there : member_at (behind s kept.new) sorts.Func a.value ≡ Some (func_member m.value) = ap (λ (fs : List FuncDef). option_map func_member (slice_get fs a.value)) (funcs_behind s kept.new) ∙ ap (option_map func_member) func in
    same s first _ u _ p b.then m.is (with_func_kept s first (record { types = b.value.types; funcs = b.value.funcs; made = b.value.made; exports = b.value.exports ++ record { name = name; sort = sorts.Func; index = a.value } ∷ []; wants = b.value.wants }) (and_item o name (func_member m.value)) b.value.wants a.value m.value (with_item_kept s first b.value o b.value.wants name sorts.Func a.value (func_member m.value) kept there) func)
export_keeps s first t u o p name sorts.Type i ty k h e = type_kept s first t u o p name i ty k h e

each_keeps : {A : Type 0} (s : Spaces) (first : List DefTypeTree) (step : Instantiated → A → Result Instantiated ShimReason) (own : Own → A → Option Own) → ((t u : Instantiated) (o p : Own) (x : A) → Keeps s first t o → step t x ≡ Ok u → own o x ≡ Some p → Keeps s first u p) → (xs : List A) (t u : Instantiated) (o p : Own) → Keeps s first t o → each step t xs ≡ Ok u → each_own own o xs ≡ Some p → Keeps s first u p
each_keeps s first step own keeps [] t u o p k h e = same s first t u o p h (some_is o p e) k
each_keeps s first step own keeps (x ∷ xs) t u o p k h e =
    let a = before (step t x) (λ v. each step v xs) u h in
    let b = chained (λ q. each_own own q xs) (own o x) p e in
    each_keeps s first step own keeps xs a.value u b.value p (keeps t a.value o b.value x k a.was b.was) a.then b.is

shared_keeps : (s : Spaces) (first : List DefTypeTree) (t u : Instantiated) (o p : Own) (x : SectionTree) → Keeps s first t o → shared_step t x ≡ Ok u → shared_own o x ≡ Some p → Keeps s first u p
shared_keeps s first t u o p (sections.types ts) k h e = each_keeps s first type_step type_own (λ t u o p d k h e. type_keeps s first t u o p d k h e) ts t u o p k h e
shared_keeps s first t u o p (sections.custom name bytes) k h e = same s first t u o p h (some_is o p e) k
shared_keeps s first t u o p (sections.core_module bytes) k h e = same s first t u o p h (some_is o p e) k
shared_keeps s first t u o p (sections.core_instances items) k h e = same s first t u o p h (some_is o p e) k
shared_keeps s first t u o p (sections.instances items) k h e = same s first t u o p h (some_is o p e) k
shared_keeps s first t u o p (sections.aliases items) k h e = same s first t u o p h (some_is o p e) k
shared_keeps s first t u o p (sections.canons items) k h e = same s first t u o p h (some_is o p e) k
shared_keeps s first t u o p (sections.imports items) k h e = same s first t u o p h (some_is o p e) k
shared_keeps s first t u o p (sections.exports items) k h e = same s first t u o p h (some_is o p e) k

section_keeps : (s : Spaces) (first : List DefTypeTree) (g : Given) (t u : Instantiated) (o p : Own) (x : ShimSectionTree) → Keeps s first t o → shim_step g t x ≡ Ok u → section_own s g o x ≡ Some p → Keeps s first u p
section_keeps s first g t u o p (trees.shared x) k h e = shared_keeps s first t u o p x k h e
section_keeps s first g t u o p (trees.shim_imports items) k h e = each_keeps s first (import_step g) (import_own s g) (λ t u o p (i : ShimImport) k h e. import_keeps s first g t u o p i.name i.desc k h e) items t u o p k h e
section_keeps s first g t u o p (trees.shim_exports items) k h e = each_keeps s first export_step export_own (λ t u o p (x : ShimExport) k h e. export_keeps s first t u o p x.name x.sort x.index x.ascribed k h e) items t u o p k h e

pub items_kept : (s : Spaces) (g : Given) (first made : List DefTypeTree) (wants : List Want) (shim : List ShimSectionTree) (t : Instantiated) (own : Own) → instantiated g (instantiating (length s.types) first wants) shim ≡ Ok t → own_instance s g shim ≡ Some own → t.made ≡ first ++ made → items_behind s made t.exports ≡ own.items
unfolding member
items_kept s g first made wants shim t own h e m =
    let start : Keeps s first (instantiating (length s.types) first wants) nothing = record { new = []; made = sym (append-nil first); count = refl; types = refl; funcs = refl; items = refl } in
    let end = each_keeps s first (shim_step g) (section_own s g) (λ t u o p x k h e. section_keeps s first g t u o p x k h e) shim (instantiating (length s.types) first wants) t nothing own start h e in
    let new : end.new ≡ made = front_off first end.new made (sym end.made ∙ m) in
    given_all (member (behind s made)) t.exports own.items (subst (λ (d : List DefTypeTree). Give (member (behind s d)) t.exports own.items) new end.items)
