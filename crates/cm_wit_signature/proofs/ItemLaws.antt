-- What items are.
use Rattle.std.proofs.Common.{◌≡◌, ℕ, zero, suc, arith, slice_get, ◌<◌, ◌≤◌, ◌+◌, Bool, true, false, ◌&&◌, nat_lt, List, [], ◌∷◌, ◌++◌, length, map, get_or, Option, Some, None, refl, sym, ap, subst, ◌∙◌}
use Rattle.std.specs.List.{AllByRecursion, flat_map}
use Rattle.std.specs.Option.{option_map, option_and_then}
use Rattle.std.proofs.lemmas.Option.{get_or_from_slice_get, slice_get-map}
use Rattle.std.proofs.lemmas.Bool.{and_right}
use Rattle.cm_types.specs.ExternNames.{name_spelling}
use Rattle.cm_types.specs.Types.{Ty, FuncTy}
use Rattle.cm_types.specs.Signatures.{ItemTy, NamedItem, func_item, equal_type}
use Rattle.cm_types.specs.declared.resource.ResourceId.{ResourceId}
use Rattle.cm_types_arena.specs.Places.{types_of, funcs_of}
use Rattle.cm_types_arena.specs.TypeDefs.{func_at}
use Rattle.cm_types_arena.specs.declared.types.Types.{Types}
use Rattle.cm_types_arena.specs.Replaced.{replaced, replaced_func}
use Rattle.cm_types_arena.specs.Placed.{moved_by}
use Rattle.cm_types_arena.specs.Instances.{desc_of, is_desc_there}
use Rattle.cm_types_arena.specs.declared.placed.Placed.{Placed}
use Rattle.cm_types_arena.specs.Shared.{are_shared_items_there, shared_item_of}
use Rattle.cm_types_arena.specs.SharedNames.{text_in, name_with}
use Rattle.cm_types_arena.specs.declared.names.Front.{Front}
use Rattle.cm_types_arena.specs.declared.names.Front.TheVariants as front
use Rattle.cm_types_arena.specs.declared.shared.SharedItem.{SharedItem}
use Rattle.cm_types_arena.specs.declared.instances.ItemDesc.{ItemDesc}
use Rattle.cm_types_arena.specs.declared.instances.ItemDesc.TheVariants as desc
use Rattle.cm_wit_meanings.specs.declared.fault.MeaningFault.{MeaningFault}
use Rattle.cm_wit_meanings.specs.declared.fault.MeaningFault.TheVariants as fault
use Rattle.cm_wit_meanings.specs.declared.scope.Scope as code_scope
use Rattle.cm_wit_meanings.specs.Scopes.{Scope, Meaning, as_resource}
use Rattle.cm_wit_meanings.specs.Meanings.{each_meaning, resource_func_meaning}
use Rattle.cm_wit_meanings.specs.Places.{Extends, ArePlaced, scope_in}
use Rattle.cm_wit_meanings.specs.Faults.{is_func_spellable}
use Rattle.cm_wit_signature.specs.Fronts.{AreFronted, HasResource, IsFronted, front_resource, func_front}
use Rattle.cm_wit_signature.specs.Functions.{desc_funcs, item_funcs}
use Rattle.cm_wit_signature.specs.Members.{member_item, member_func, item_with}
use Rattle.cm_wit_reading.specs.Trees.{ResourceFunc, method, static, constructor}
use Rattle.cm_wit_reading.specs.Views.{resource_func_tree}
use Rattle.cm_wit_signature.specs.declared.members.Member as code
use Rattle.cm_wit_signature.specs.declared.members.Member.TheVariants as member
use Rattle.cm_wit_signature.specs.MemberViews.{member_view}
use Rattle.cm_wit_signature.specs.ItemFaults.{AreWithin, are_spelled, IsItemFault, AreItemsFault}
use Rattle.cm_wit_signature.specs.Own.{AreOwn}
use Rattle.cm_wit_signature.proofs.EachLaws.{makes_fault}
use Rattle.cm_wit_signature.proofs.PushLaws.{Grown, Pushed, pushed_next, pushed_all}
use Rattle.cm_lemmas.proofs.Numbers.{below_more, less_of, lt_true}
use Rattle.cm_wit_meanings.proofs.MemberLaws.{each_view}
use Rattle.cm_wit_meanings.proofs.GrowthLaws.{extends_length, place_kept}
use Rattle.cm_wit_meanings.proofs.PlacesLaws.{func_kept}
use Rattle.cm_lemmas.proofs.Bools.{and_false_by}
use Rattle.cm_wit_meanings.proofs.ScopeLaws.{scope_kept, scope_placed}

-- ---- one item

-- its places are there, and its function is within the limits
pub record IsItemThere (t : Types) (i : SharedItem) : Type 0 where
  pub there : is_desc_there (length (types_of t)) (length (funcs_of t)) i.desc ≡ true
  pub within : AreWithin (desc_funcs (desc_of (types_of t) (funcs_of t) i.desc))

abbrev pub item_view : List Front → Types → SharedItem → NamedItem
item_view fronts t i = shared_item_of (types_of t) (funcs_of t) fronts i

abbrev items_made : List Front → List Ty → List FuncTy → List SharedItem → List NamedItem
items_made fronts types funcs is = map (shared_item_of types funcs fronts) is

test_more : (m n p : ℕ) → m ≤ n → nat_lt p m ≡ true → nat_lt p n ≡ true
test_more m n p le e = lt_true p n (below_more m n p le (less_of p m e))

module _ (types more : List Ty) (funcs further : List FuncTy) (e : Extends types more) (g : Extends funcs further) where
  desc_more : (d : ItemDesc) → is_desc_there (length types) (length funcs) d ≡ true → is_desc_there (length more) (length further) d ≡ true
  desc_more (desc.Func p) h = test_more (length funcs) (length further) p.place (extends_length funcs further g) h
  desc_more (desc.EqualType p) h = test_more (length types) (length more) p.place (extends_length types more e) h
  desc_more (desc.EqualResource n) h = refl
  desc_more (desc.FreshResource n) h = refl

  desc_kept : (d : ItemDesc) → is_desc_there (length types) (length funcs) d ≡ true → desc_of more further d ≡ desc_of types funcs d
  desc_kept (desc.Func p) h = ap (λ (f : FuncTy). func_item (replaced_func (moved_by p.by) f)) (func_kept funcs further p.place g (less_of p.place (length funcs) h))
  desc_kept (desc.EqualType p) h = ap (λ (t : Ty). equal_type (replaced (moved_by p.by) t)) (place_kept types more p.place e (less_of p.place (length types) h))
  desc_kept (desc.EqualResource n) h = refl
  desc_kept (desc.FreshResource n) h = refl

  one_kept : (fronts : List Front) (i : SharedItem) → is_desc_there (length types) (length funcs) i.desc ≡ true → shared_item_of more further fronts i ≡ shared_item_of types funcs fronts i
  one_kept fronts i h = ap (λ (d : ItemTy). record { name = text_in fronts i.name; desc = d }) (desc_kept i.desc h)

  first_true : (a b : Bool) → (a && b) ≡ true → a ≡ true
  first_true true b h = refl
  first_true false b h = absurd cc

  second_true : (a b : Bool) → (a && b) ≡ true → b ≡ true
  second_true true b h = h
  second_true false b h = absurd cc

  pub items_stay : (fronts : List Front) (is : List SharedItem) → are_shared_items_there (length types) (length funcs) is ≡ true → items_made fronts more further is ≡ items_made fronts types funcs is
  items_stay fronts [] h = refl
  items_stay fronts (i ∷ is) h =
      let p = first_true (is_desc_there (length types) (length funcs) i.desc) (are_shared_items_there (length types) (length funcs) is) h in
      let q = second_true (is_desc_there (length types) (length funcs) i.desc) (are_shared_items_there (length types) (length funcs) is) h in
      rw (one_kept fronts i p, items_stay fronts is q) refl

  pub items_stay_there : (is : List SharedItem) → are_shared_items_there (length types) (length funcs) is ≡ true → are_shared_items_there (length more) (length further) is ≡ true
  items_stay_there [] h = refl
  items_stay_there (i ∷ is) h =
      let p = first_true (is_desc_there (length types) (length funcs) i.desc) (are_shared_items_there (length types) (length funcs) is) h in
      let q = second_true (is_desc_there (length types) (length funcs) i.desc) (are_shared_items_there (length types) (length funcs) is) h in
      ap (λ (x : Bool). x && are_shared_items_there (length more) (length further) is) (desc_more i.desc p) ∙ items_stay_there is q

module _ (old new : Types) (g : Grown old new) where
  pub item_kept : (fronts : List Front) (i : SharedItem) → is_desc_there (length (types_of old)) (length (funcs_of old)) i.desc ≡ true → item_view fronts new i ≡ item_view fronts old i
  item_kept fronts i e = one_kept (types_of old) (types_of new) (funcs_of old) (funcs_of new) g.types g.funcs fronts i e

  pub item_more : (i : SharedItem) → IsItemThere old i → IsItemThere new i
  item_more i h = record { there = desc_more (types_of old) (types_of new) (funcs_of old) (funcs_of new) g.types g.funcs i.desc h.there; within = subst (λ (x : ItemTy). AreWithin (desc_funcs x)) (sym (desc_kept (types_of old) (types_of new) (funcs_of old) (funcs_of new) g.types g.funcs i.desc h.there)) h.within }

-- ---- several

pub all_left : (xs ys : List FuncTy) → AreWithin (xs ++ ys) → AreWithin xs
all_left [] ys h = tt
all_left (x ∷ xs) ys h = (h.0, all_left xs ys h.1)

pub all_right : (xs ys : List FuncTy) → AreWithin (xs ++ ys) → AreWithin ys
all_right [] ys h = h
all_right (x ∷ xs) ys h = all_right xs ys h.1

pub all_both : (xs ys : List FuncTy) → AreWithin xs → AreWithin ys → AreWithin (xs ++ ys)
all_both [] ys h g = g
all_both (x ∷ xs) ys h g = (h.0, all_both xs ys h.1 g)

pub first_unspelled : (xs ys : List FuncTy) → are_spelled xs ≡ false → are_spelled (xs ++ ys) ≡ false
first_unspelled [] ys h = absurd cc
first_unspelled (x ∷ xs) ys h = and_false_by (is_func_spellable x) (are_spelled xs) (are_spelled (xs ++ ys)) (first_unspelled xs ys) h

pub second_unspelled : (xs ys : List FuncTy) → are_spelled ys ≡ false → are_spelled (xs ++ ys) ≡ false
second_unspelled [] ys h = h
second_unspelled (x ∷ xs) ys h = and_right (is_func_spellable x) (are_spelled (xs ++ ys)) (second_unspelled xs ys h)

-- what holds of the functions of several things holds of those of one, and what does not of one
-- does not of all
module _ {B : Type 0} (funcs : B → List FuncTy) where
  pub part_within : (front : List B) (y : B) (rest : List B) → AreWithin (flat_map funcs (front ++ y ∷ rest)) → AreWithin (funcs y)
  part_within [] y rest w = all_left (funcs y) (flat_map funcs rest) w
  part_within (x ∷ xs) y rest w = part_within xs y rest (all_right (funcs x) (flat_map funcs (xs ++ y ∷ rest)) w)

  pub part_unspelled : (front : List B) (y : B) (rest : List B) → are_spelled (funcs y) ≡ false → are_spelled (flat_map funcs (front ++ y ∷ rest)) ≡ false
  part_unspelled [] y rest h = first_unspelled (funcs y) (flat_map funcs rest) h
  part_unspelled (x ∷ xs) y rest h = second_unspelled (funcs x) (flat_map funcs (xs ++ y ∷ rest)) (part_unspelled xs y rest h)

items_there : (t : Types) (is : List SharedItem) → AllByRecursion (IsItemThere t) is → are_shared_items_there (length (types_of t)) (length (funcs_of t)) is ≡ true
items_there t [] h = refl
items_there t (i ∷ is) h = both (is_desc_there (length (types_of t)) (length (funcs_of t)) i.desc) (are_shared_items_there (length (types_of t)) (length (funcs_of t)) is) h.0.there (items_there t is h.1)
  where
    both : (a b : Bool) → a ≡ true → b ≡ true → (a && b) ≡ true
    both a b e f = ap (λ (x : Bool). x && b) e ∙ f

items_within : (fronts : List Front) (t : Types) (is : List SharedItem) → AllByRecursion (IsItemThere t) is → AreWithin (flat_map item_funcs (items_made fronts (types_of t) (funcs_of t) is))
items_within fronts t [] h = tt
items_within fronts t (i ∷ is) h = all_both (item_funcs (item_view fronts t i)) (flat_map item_funcs (items_made fronts (types_of t) (funcs_of t) is)) h.0.within (items_within fronts t is h.1)

-- ---- adding them

all_at : {A : Type 0} (P : A → Type 0) (xs : List A) (k : ℕ) (x : A) → k < length xs → x ≡ get_or xs k x → AllByRecursion P xs → P x
all_at P [] k x lt e h = absurd (omega (arith, lt))
all_at P (y ∷ ys) zero x lt e h = subst P (sym e) h.0
all_at P (y ∷ ys) (suc k) x lt e h = all_at P ys k x (omega (arith, lt)) e h.1

front_of : (s : Scope) (r : List ℕ) (f : ResourceFunc) → front_resource s (func_front r f) ≡ option_and_then as_resource (s r)
front_of s r (method m f) = refl
front_of s r (static m f) = refl
front_of s r (constructor ps) = refl

has_resource : (s : Scope) (fronts : List Front) (resources : List (Option ResourceId)) (m : code.Member) → resources ≡ map (front_resource s) fronts → IsFronted fronts m → HasResource s resources m
has_resource s fronts resources (member.Used name) e h = tt
has_resource s fronts resources (member.Declared name) e h = tt
has_resource s fronts resources (member.OfResource r f k) e h =
    ap (λ (l : List (Option ResourceId)). slice_get l k) e
    ∙ (slice_get-map (front_resource s) fronts k ∙ (ap (option_map (front_resource s)) h ∙ ap (λ (o : Option ResourceId). Some o) (front_of s r.now (resource_func_tree f.now))))
has_resource s fronts resources (member.Function name f) e h = tt

-- a member has its resource where these are those of the fronts
pub member_resource : (s : Scope) (fronts : List Front) (resources : List (Option ResourceId)) (ms : List code.Member) (i : ℕ) (x : code.Member) → i < length ms → x ≡ get_or ms i x → AreFronted fronts ms → resources ≡ map (front_resource s) fronts → HasResource s resources x
member_resource s fronts resources ms i x lt is a e = has_resource s fronts resources x e (all_at (IsFronted fronts) ms i x lt is a.each)

abbrev pub meant_in : code_scope.Scope → Types → code.Member → Option NamedItem
meant_in sc t m = member_item (scope_in (types_of t) sc) (member_view m)

abbrev pub PushedItems : code_scope.Scope → List Front → List code.Member → Types → ℕ → Types → List SharedItem → Type 0
PushedItems sc fronts ms first i now done = Pushed (meant_in sc first) (item_view fronts) IsItemThere ms first i now done

module _ (sc : code_scope.Scope) (fronts : List Front) (ms : List code.Member) (first now : Types) (placed : ArePlaced (length (types_of first)) sc.table.now) (i : ℕ) (done : List SharedItem) (h : PushedItems sc fronts ms first i now done) where
  pub items_placed : ArePlaced (length (types_of now)) sc.table.now
  items_placed = scope_placed (types_of first) (types_of now) sc h.types placed

  same : scope_in (types_of now) sc ≡ scope_in (types_of first) sc
  same = scope_kept (types_of first) (types_of now) sc h.types placed

  pub items_own : AreOwn (scope_in (types_of first) sc) → AreOwn (scope_in (types_of now) sc)
  items_own o = subst AreOwn (sym same) o

  pub items_next : (next : Types) (x : code.Member) (d : SharedItem) (new : List SharedItem) → i < length ms → x ≡ get_or ms i x → AreFronted fronts ms → (slice_get fronts 0 ≡ Some front.Plain → IsFronted fronts x → meant_in sc now x ≡ Some (item_view fronts next d)) → is_desc_there (length (types_of next)) (length (funcs_of next)) d.desc ≡ true → AreWithin (desc_funcs (desc_of (types_of next) (funcs_of next) d.desc)) → Extends (types_of now) (types_of next) → Extends (funcs_of now) (funcs_of next) → new ≡ done ++ d ∷ [] → PushedItems sc fronts ms first (i + 1) next new
  items_next next x d new lt is fronted e q w g f n =
      pushed_next (meant_in sc first) (item_view fronts) IsItemThere ms first (λ a b k grown t. item_kept a b grown fronts k t.there) (λ a b k grown t. item_more a b grown k t) now next i x d done new lt is (ap (λ (s : Scope). member_item s (member_view x)) (sym same) ∙ e fronted.plain (all_at (IsFronted fronts) ms i x lt is fronted.each)) (record { there = q; within = w }) (record { types = g; funcs = f }) n h

  pub items_fault : (x : code.Member) (f : MeaningFault) → i < length ms → x ≡ get_or ms i x → IsItemFault (meant_in sc now x) f → AreItemsFault (each_meaning (member_item (scope_in (types_of first) sc)) (map member_view ms)) f
  items_fault x f lt is e =
      subst (λ (o : Option (List NamedItem)). AreItemsFault o f) (each_view (member_item (scope_in (types_of first) sc)) member_view ms)
      (makes_fault (meant_in sc first) ms (λ is. AreWithin (flat_map item_funcs is)) (λ is. are_spelled (flat_map item_funcs is)) (λ k. AreWithin (item_funcs k)) (λ k. are_spelled (item_funcs k)) (part_within item_funcs) (part_unspelled item_funcs) i x (map (item_view fronts now) done) f lt is (subst (λ (s : Scope). IsItemFault (member_item s (member_view x)) f) same e) h.makes)

  pub items_all : length ms ≤ i → each_meaning (member_item (scope_in (types_of first) sc)) (map member_view ms) ≡ Some (items_made fronts (types_of now) (funcs_of now) done)
  items_all le = sym (each_view (member_item (scope_in (types_of first) sc)) member_view ms) ∙ pushed_all (meant_in sc first) (item_view fronts) IsItemThere ms first now i done le h

  pub all_there : are_shared_items_there (length (types_of now)) (length (funcs_of now)) done ≡ true
  all_there = items_there now done h.there

  pub all_within : AreWithin (flat_map item_funcs (items_made fronts (types_of now) (funcs_of now) done))
  all_within = items_within fronts now done h.there

-- ---- one of them

pub refused : (g : Meaning → NamedItem) (o : Option Meaning) (f : MeaningFault) → f ≡ fault.NoSuchType → o ≡ None → IsItemFault (option_map g o) f
refused g o f e n = subst (λ (w : MeaningFault). IsItemFault (option_map g o) w) (sym e) (ap (option_map g) n)

pub func_refused : (g : FuncTy → NamedItem) (o : Option FuncTy) (f : MeaningFault) → f ≡ fault.NoSuchType → o ≡ None → IsItemFault (option_map g o) f
func_refused g o f e n = subst (λ (w : MeaningFault). IsItemFault (option_map g o) w) (sym e) (ap (option_map g) n)

pub no_resource : (s : Scope) (n : List ℕ) (f : ResourceFunc) → option_and_then as_resource (s n) ≡ None → member_func s n f ≡ None
no_resource s n f e = ap (option_and_then (λ x. resource_func_meaning s x f)) e

pub of_resource_made : (s : Scope) (n : List ℕ) (f : ResourceFunc) (r : ResourceId) (t : FuncTy) → option_and_then as_resource (s n) ≡ Some r → resource_func_meaning s r f ≡ Some t → member_func s n f ≡ Some t
of_resource_made s n f r t e q = ap (λ (o : Option ResourceId). option_and_then (λ x. resource_func_meaning s x f) o) e ∙ q

-- the name that a front of a list makes
pub name_made : (fronts : List Front) (k : ℕ) (f : Front) (back : List ℕ) → slice_get fronts k ≡ Some f → text_in fronts (record { front = k; back = back }) ≡ name_spelling (name_with f back)
name_made fronts k f back e = ap (λ (x : Front). name_spelling (name_with x back)) (get_or_from_slice_get fronts k f front.Plain e)

pub func_item_made : (name n : List ℕ) (types : List Ty) (funcs : List FuncTy) (p : Placed) (place : ℕ) (o : Option FuncTy) → ((f : FuncTy) → replaced_func (moved_by None) f ≡ f) → name ≡ n → p.place ≡ place → p.by ≡ None → o ≡ Some (func_at funcs place) → option_map (λ t. item_with n (func_item t)) o ≡ Some (record { name = name; desc = desc_of types funcs (desc.Func p) })
func_item_made name n types funcs p place o stays a b d e =
    ap (option_map (λ t. item_with n (func_item t))) e ∙ sym (rw (a, b, d, stays (func_at funcs place)) refl)
