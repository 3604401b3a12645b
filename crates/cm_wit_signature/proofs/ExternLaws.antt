-- Imports and exports that are added one after another.
use Rattle.std.proofs.Common.{◌≡◌, ℕ, suc, ◌+◌, ◌-◌, ◌<◌, ◌≤◌, nat_lt, Bool, true, false, if◌then◌else◌, List, [], ◌∷◌, ◌++◌, length, map, Option, Some, None, slice_get, slice_index_or, zero, refl, sym, ap, subst, ◌∙◌, arith, append_assoc, append-nil}
use Rattle.std.specs.List.{flat_map, list_all}
use Rattle.std.specs.Option.{option_and_then}
use Rattle.std.proofs.lemmas.List.{map-append}
use Rattle.std.proofs.lemmas.Bool.{and_from}
use Rattle.cm_types.specs.Types.{Ty, FuncTy}
use Rattle.cm_types.specs.Signatures.{NamedItem, NamedExtern, ExternTy, SignatureTy, func, instance}
use Rattle.cm_types_arena.specs.Replaced.{replaced_func}
use Rattle.cm_types_arena.specs.Places.{types_of, funcs_of}
use Rattle.cm_types_arena.specs.declared.types.Types.{Types}
use Rattle.cm_types_arena.specs.Placed.{moved_by}
use Rattle.cm_types_arena.specs.Instances.{replaced_item}
use Rattle.cm_types_arena.specs.Shared.{shared_items_of, are_shared_items_there, shared_desc_of, shared_extern_of, shared_externs_of, is_shared_there}
use Rattle.cm_types_arena.specs.SharedNames.{text_in}
use Rattle.cm_types_arena.specs.declared.names.Front.{Front}
use Rattle.cm_types_arena.specs.declared.shared.SharedDesc.{SharedDesc}
use Rattle.cm_types_arena.specs.declared.shared.SharedDesc.TheVariants as shared
use Rattle.cm_types_arena.specs.declared.shared.SharedExtern.{SharedExtern}
use Rattle.cm_types_arena.specs.declared.shared.SharedExterns.{SharedExterns}
use Rattle.cm_types_arena.specs.declared.shared.SharedItems.{SharedItems}
use Rattle.cm_wit_worlds.specs.Interfaces.{PlacedInterface, PlacedWorld}
use Rattle.cm_wit_meanings.specs.declared.fault.MeaningFault.{MeaningFault}
use Rattle.cm_wit_meanings.specs.declared.fault.MeaningFault.TheVariants as fault
use Rattle.cm_wit_meanings.specs.Places.{Extends}
use Rattle.cm_wit_signature.specs.ItemFaults.{AreWithin, are_spelled, IsFaultWith}
use Rattle.cm_wit_signature.specs.Functions.{extern_funcs, funcs_in}
use Rattle.cm_wit_signature.specs.Signatures.{NamedFunc, Scopes, interface_extern, instance_extern, func_extern, func_at, in_front, func_in_front, externs_from, with_exports}
use Rattle.cm_wit_signature.specs.Adding.{behind, AreExternsFault, Adds}
use Rattle.cm_wit_signature.specs.PartViews.{are_made_there}
use Rattle.cm_wit_signature.proofs.ItemLaws.{all_both as all_joined, first_unspelled, all_left, all_right, second_unspelled}
use Rattle.cm_lemmas.proofs.Numbers.{below_more, less_of, lt_true, lt_false}
use Rattle.cm_wit_meanings.proofs.GrowthLaws.{extends_length}
use Rattle.cm_lemmas.proofs.Bools.{both_left, both_right}
use Rattle.cm_wit_meanings.proofs.PlacesLaws.{func_kept}

-- ---- imports and exports stay what they are

-- items stay what they are, and their places stay there
abbrev pub ItemsStay : Type 0
ItemsStay = (types more : List Ty) (funcs further : List FuncTy) (is : SharedItems)
    → Extends types more → Extends funcs further
    → are_shared_items_there (length types) (length funcs) is.items.items ≡ true
    → shared_items_of more further is ≡ shared_items_of types funcs is

abbrev pub ItemsStayThere : Type 0
ItemsStayThere = (types more : List Ty) (funcs further : List FuncTy) (is : SharedItems)
    → Extends types more → Extends funcs further
    → are_shared_items_there (length types) (length funcs) is.items.items ≡ true
    → are_shared_items_there (length more) (length further) is.items.items ≡ true

module _ (fronts : List Front) (stay : ItemsStay) (there : ItemsStayThere) (types more : List Ty) (funcs further : List FuncTy) (e : Extends types more) (g : Extends funcs further) where
  desc_kept : (d : SharedDesc) → is_shared_there (length types) (length funcs) d ≡ true → shared_desc_of more further d ≡ shared_desc_of types funcs d
  desc_kept (shared.Func p) h = ap (λ (f : FuncTy). func (replaced_func (moved_by p.by) f)) (func_kept funcs further p.place g (less_of p.place (length funcs) h))
  desc_kept (shared.Instance is) h = ap (λ (items : List NamedItem). instance (map (replaced_item (moved_by None)) items)) (stay types more funcs further is e g h)

  desc_more : (d : SharedDesc) → is_shared_there (length types) (length funcs) d ≡ true → is_shared_there (length more) (length further) d ≡ true
  desc_more (shared.Func p) h = lt_true p.place (length further) (below_more (length funcs) (length further) p.place (extends_length funcs further g) (less_of p.place (length funcs) h))
  desc_more (shared.Instance is) h = there types more funcs further is e g h

  one_kept : (x : SharedExtern) → is_shared_there (length types) (length funcs) x.desc ≡ true → shared_extern_of more further fronts x ≡ shared_extern_of types funcs fronts x
  one_kept x h = ap (λ (d : ExternTy). record { name = text_in fronts x.name; desc = d }) (desc_kept x.desc h)

  abbrev are_there : List Ty → List FuncTy → List SharedExtern → Bool
  are_there ts fs es = list_all (λ x. is_shared_there (length ts) (length fs) x.desc) es

  all_kept : (es : List SharedExtern) → are_there types funcs es ≡ true → map (shared_extern_of more further fronts) es ≡ map (shared_extern_of types funcs fronts) es
  all_kept [] h = refl
  all_kept (x ∷ es) h =
      let p = both_left (is_shared_there (length types) (length funcs) x.desc) (are_there types funcs es) h in
      let q = both_right (is_shared_there (length types) (length funcs) x.desc) (are_there types funcs es) h in
      rw (one_kept x p, all_kept es q) refl

  all_more : (es : List SharedExtern) (x : SharedExtern) → are_there types funcs es ≡ true → is_shared_there (length more) (length further) x.desc ≡ true → are_there more further (es ++ x ∷ []) ≡ true
  all_more [] x h p = and_from (is_shared_there (length more) (length further) x.desc) true p refl
  all_more (y ∷ es) x h p =
      let a = both_left (is_shared_there (length types) (length funcs) y.desc) (are_there types funcs es) h in
      let b = both_right (is_shared_there (length types) (length funcs) y.desc) (are_there types funcs es) h in
      and_from (is_shared_there (length more) (length further) y.desc) (are_there more further (es ++ x ∷ [])) (desc_more y.desc a) (all_more es x b p)

-- ---- one more

-- what is made in an arena
abbrev pub made : List Front → Types → List SharedExtern → List NamedExtern
made fronts t es = map (shared_extern_of (types_of t) (funcs_of t) fronts) es

funcs_joined : (xs ys : List NamedExtern) → AreWithin (flat_map extern_funcs xs) → AreWithin (flat_map extern_funcs ys) → AreWithin (flat_map extern_funcs (xs ++ ys))
funcs_joined [] ys h g = g
funcs_joined (x ∷ xs) ys h g = all_both (extern_funcs x) (flat_map extern_funcs (xs ++ ys)) (left (extern_funcs x) (flat_map extern_funcs xs) h) (funcs_joined xs ys (right (extern_funcs x) (flat_map extern_funcs xs) h) g)
  where
    left : (fs gs : List FuncTy) → AreWithin (fs ++ gs) → AreWithin fs
    left [] gs w = tt
    left (a ∷ fs) gs w = (w.0, left fs gs w.1)

    right : (fs gs : List FuncTy) → AreWithin (fs ++ gs) → AreWithin gs
    right [] gs w = w
    right (a ∷ fs) gs w = right fs gs w.1

    all_both : (fs gs : List FuncTy) → AreWithin fs → AreWithin gs → AreWithin (fs ++ gs)
    all_both [] gs w v = v
    all_both (a ∷ fs) gs w v = (w.0, all_both fs gs w.1 v)

module _ (fronts : List Front) (stay : ItemsStay) (there : ItemsStayThere) (old new : Types) (e : Extends (types_of old) (types_of new)) (g : Extends (funcs_of old) (funcs_of new)) (es : List SharedExtern) (h : are_made_there old es ≡ true) where
  pub made_kept : made fronts new es ≡ made fronts old es
  made_kept = all_kept fronts stay there (types_of old) (types_of new) (funcs_of old) (funcs_of new) e g es h

  pub made_more : (x : SharedExtern) → made fronts new (es ++ x ∷ []) ≡ made fronts old es ++ shared_extern_of (types_of new) (funcs_of new) fronts x ∷ []
  made_more x = map-append (shared_extern_of (types_of new) (funcs_of new) fronts) es (x ∷ []) ∙ ap (λ (l : List NamedExtern). l ++ shared_extern_of (types_of new) (funcs_of new) fronts x ∷ []) made_kept

  pub more_there : (x : SharedExtern) → is_shared_there (length (types_of new)) (length (funcs_of new)) x.desc ≡ true → are_made_there new (es ++ x ∷ []) ≡ true
  more_there x p = all_more fronts stay there (types_of old) (types_of new) (funcs_of old) (funcs_of new) e g es x h p

  pub more_within : (x : SharedExtern) → AreWithin (flat_map extern_funcs (made fronts old es)) → AreWithin (extern_funcs (shared_extern_of (types_of new) (funcs_of new) fronts x)) → AreWithin (flat_map extern_funcs (made fronts new (es ++ x ∷ [])))
  more_within x w v =
      subst (λ (l : List NamedExtern). AreWithin (flat_map extern_funcs l)) (sym (made_more x))
      (funcs_joined (made fronts old es) (shared_extern_of (types_of new) (funcs_of new) fronts x ∷ []) w (subst AreWithin (sym (append-nil (extern_funcs (shared_extern_of (types_of new) (funcs_of new) fronts x)))) v))

-- ---- what a number stands for

behind_one : (front : List NamedExtern) (y : NamedExtern) (o : Option (List NamedExtern)) → behind (front ++ y ∷ []) o ≡ behind front (in_front (Some y) o)
behind_one front y None = refl
behind_one front y (Some ys) = ap Some (append_assoc front (y ∷ []) ys)

module _ (all : List PlacedInterface) (w : PlacedWorld) (scopes : Scopes) (own l n : ℕ) where
  at_interface : nat_lt n (length all) ≡ true → (ns : List ℕ) → externs_from all w scopes own l (n ∷ ns) ≡ in_front (instance_extern all (scopes l) n) (externs_from all w scopes own (l + 1) ns)
  at_interface e ns = ap (λ (b : Bool). if b then in_front (instance_extern all (scopes l) n) (externs_from all w scopes own (l + 1) ns) else func_in_front (scopes own) (func_at w (n - length all)) (externs_from all w scopes own l ns)) e

  at_func : nat_lt n (length all) ≡ false → (ns : List ℕ) → externs_from all w scopes own l (n ∷ ns) ≡ func_in_front (scopes own) (func_at w (n - length all)) (externs_from all w scopes own l ns)
  at_func e ns = ap (λ (b : Bool). if b then in_front (instance_extern all (scopes l) n) (externs_from all w scopes own (l + 1) ns) else func_in_front (scopes own) (func_at w (n - length all)) (externs_from all w scopes own l ns)) e

  module _ (i : PlacedInterface) (is : slice_get all n ≡ Some i) (lt : n < length all) where
    front : instance_extern all (scopes l) n ≡ interface_extern (scopes l) i
    front = ap (option_and_then (interface_extern (scopes l))) is

    pub adds_instance : (old new : List NamedExtern) (x : NamedExtern) → interface_extern (scopes l) i ≡ Some x → new ≡ old ++ x ∷ [] → Adds all w scopes own n l (l + 1) old new
    adds_instance old new x e q ns =
        ap (behind old) (at_interface (lt_true n (length all) lt) ns ∙ ap (λ (o : Option NamedExtern). in_front o (externs_from all w scopes own (l + 1) ns)) (front ∙ e))
        ∙ (sym (behind_one old x (externs_from all w scopes own (l + 1) ns)) ∙ ap (λ (k : List NamedExtern). behind k (externs_from all w scopes own (l + 1) ns)) (sym q))

  module _ (le : length all ≤ n) where
    pub adds_func : (f : NamedFunc) (old new : List NamedExtern) (x : NamedExtern) → func_at w (n - length all) ≡ Some f → func_extern (scopes own) f ≡ Some x → new ≡ old ++ x ∷ [] → Adds all w scopes own n l l old new
    adds_func f old new x a e q ns =
        ap (behind old) (at_func (lt_false n (length all) le) ns ∙ (ap (λ (o : Option NamedFunc). func_in_front (scopes own) o (externs_from all w scopes own l ns)) a ∙ ap (λ (o : Option NamedExtern). in_front o (externs_from all w scopes own l ns)) e))
        ∙ (sym (behind_one old x (externs_from all w scopes own l ns)) ∙ ap (λ (k : List NamedExtern). behind k (externs_from all w scopes own l ns)) (sym q))

    pub adds_none : (old : List NamedExtern) → func_at w (n - length all) ≡ None → Adds all w scopes own n l l old old
    adds_none old a ns = ap (behind old) (at_func (lt_false n (length all) le) ns ∙ ap (λ (o : Option NamedFunc). func_in_front (scopes own) o (externs_from all w scopes own l ns)) a)

-- ---- faults

part_within : (front : List NamedExtern) (y : NamedExtern) (rest : List NamedExtern) → AreWithin (flat_map extern_funcs (front ++ y ∷ rest)) → AreWithin (extern_funcs y)
part_within [] y rest w = all_left (extern_funcs y) (flat_map extern_funcs rest) w
part_within (x ∷ xs) y rest w = part_within xs y rest (all_right (extern_funcs x) (flat_map extern_funcs (xs ++ y ∷ rest)) w)

part_unspelled : (front : List NamedExtern) (y : NamedExtern) (rest : List NamedExtern) → are_spelled (extern_funcs y) ≡ false → are_spelled (flat_map extern_funcs (front ++ y ∷ rest)) ≡ false
part_unspelled [] y rest h = first_unspelled (extern_funcs y) (flat_map extern_funcs rest) h
part_unspelled (x ∷ xs) y rest h = second_unspelled (extern_funcs x) (flat_map extern_funcs (xs ++ y ∷ rest)) (part_unspelled xs y rest h)

front_fault : (front : List NamedExtern) (o : Option NamedExtern) (rest : Option (List NamedExtern)) (f : MeaningFault) → IsFaultWith extern_funcs o f → AreExternsFault (behind front (in_front o rest)) f
front_fault front None rest fault.NoSuchType h = refl
front_fault front (Some y) rest fault.NoSuchType h = absurd cc
front_fault front None rest fault.TooLarge h = tt
front_fault front (Some y) None fault.TooLarge h = tt
front_fault front (Some y) (Some ys) fault.TooLarge h = λ w. h (part_within front y ys w)
front_fault front None rest fault.NotSpellable h = tt
front_fault front (Some y) None fault.NotSpellable h = tt
front_fault front (Some y) (Some ys) fault.NotSpellable h = part_unspelled front y ys h
front_fault front o rest fault.Memory h = tt

module _ (all : List PlacedInterface) (w : PlacedWorld) (scopes : Scopes) (own l n : ℕ) (old : List NamedExtern) (f : MeaningFault) where
  pub instance_fault : (i : PlacedInterface) → slice_get all n ≡ Some i → n < length all → IsFaultWith extern_funcs (interface_extern (scopes l) i) f → (ns : List ℕ) → AreExternsFault (behind old (externs_from all w scopes own l (n ∷ ns))) f
  instance_fault i is lt h ns =
      subst (λ (o : Option (List NamedExtern)). AreExternsFault (behind old o) f)
      (sym (at_interface all w scopes own l n (lt_true n (length all) lt) ns ∙ ap (λ (o : Option NamedExtern). in_front o (externs_from all w scopes own (l + 1) ns)) (front all w scopes own l n i is lt)))
      (front_fault old (interface_extern (scopes l) i) (externs_from all w scopes own (l + 1) ns) f h)

  pub func_fault : (g : NamedFunc) → func_at w (n - length all) ≡ Some g → length all ≤ n → IsFaultWith extern_funcs (func_extern (scopes own) g) f → (ns : List ℕ) → AreExternsFault (behind old (externs_from all w scopes own l (n ∷ ns))) f
  func_fault g a le h ns =
      subst (λ (o : Option (List NamedExtern)). AreExternsFault (behind old o) f)
      (sym (at_func all w scopes own l n (lt_false n (length all) le) ns ∙ ap (λ (o : Option NamedFunc). func_in_front (scopes own) o (externs_from all w scopes own l ns)) a))
      (front_fault old (func_extern (scopes own) g) (externs_from all w scopes own l ns) f h)

-- ---- imports and exports together

unspelled_of : (is es : List NamedExtern) → are_spelled (flat_map extern_funcs is) ≡ false → are_spelled (funcs_in (record { imports = is; exports = es })) ≡ false
unspelled_of is es h = first_unspelled (flat_map extern_funcs is) (flat_map extern_funcs es) h

unspelled_out : (is es : List NamedExtern) → are_spelled (flat_map extern_funcs es) ≡ false → are_spelled (funcs_in (record { imports = is; exports = es })) ≡ false
unspelled_out is es h = second_unspelled (flat_map extern_funcs is) (flat_map extern_funcs es) h

pub imports_fault : (is es : Option (List NamedExtern)) (f : MeaningFault) → AreExternsFault is f → IsFaultWith funcs_in (with_exports is es) f
imports_fault None es fault.NoSuchType h = refl
imports_fault (Some xs) es fault.NoSuchType h = absurd cc
imports_fault None es fault.TooLarge h = tt
imports_fault (Some xs) None fault.TooLarge h = tt
imports_fault (Some xs) (Some ys) fault.TooLarge h = λ w. h (all_left (flat_map extern_funcs xs) (flat_map extern_funcs ys) w)
imports_fault None es fault.NotSpellable h = tt
imports_fault (Some xs) None fault.NotSpellable h = tt
imports_fault (Some xs) (Some ys) fault.NotSpellable h = unspelled_of xs ys h
imports_fault is es fault.Memory h = tt

exports_fault_of : (xs : List NamedExtern) (es : Option (List NamedExtern)) (f : MeaningFault) → AreExternsFault es f → IsFaultWith funcs_in (with_exports (Some xs) es) f
exports_fault_of xs None fault.NoSuchType h = refl
exports_fault_of xs (Some ys) fault.NoSuchType h = absurd cc
exports_fault_of xs None fault.TooLarge h = tt
exports_fault_of xs (Some ys) fault.TooLarge h = λ w. h (all_right (flat_map extern_funcs xs) (flat_map extern_funcs ys) w)
exports_fault_of xs None fault.NotSpellable h = tt
exports_fault_of xs (Some ys) fault.NotSpellable h = unspelled_out xs ys h
exports_fault_of xs es fault.Memory h = tt

pub exports_fault : (is es : Option (List NamedExtern)) (xs : List NamedExtern) (f : MeaningFault) → is ≡ Some xs → AreExternsFault es f → IsFaultWith funcs_in (with_exports is es) f
exports_fault is es xs f e h = subst (λ (o : Option (List NamedExtern)). IsFaultWith funcs_in (with_exports o es) f) (sym e) (exports_fault_of xs es f h)

abbrev pair_of : List NamedExtern → List NamedExtern → SignatureTy
pair_of is es = record { imports = is; exports = es }

same_signature : (s : SignatureTy) (xs ys : List NamedExtern) → s.imports ≡ xs → s.exports ≡ ys → s ≡ pair_of xs ys
same_signature s xs ys p q = ap (λ (x : List NamedExtern). pair_of x s.exports) p ∙ ap (λ (y : List NamedExtern). pair_of xs y) q

pub signature_made : (is es : Option (List NamedExtern)) (xs ys : List NamedExtern) (s : SignatureTy) → is ≡ Some xs → es ≡ Some ys → s.imports ≡ xs → s.exports ≡ ys → with_exports is es ≡ Some s
signature_made is es xs ys s a b p q =
    ap (λ (o : Option (List NamedExtern)). with_exports o es) a ∙ (ap (λ (o : Option (List NamedExtern)). with_exports (Some xs) o) b ∙ sym (ap (λ (x : SignatureTy). Some x) (same_signature s xs ys p q)))

pub signature_within : (xs ys : List NamedExtern) (s : SignatureTy) → AreWithin (flat_map extern_funcs xs) → AreWithin (flat_map extern_funcs ys) → s.imports ≡ xs → s.exports ≡ ys → AreWithin (funcs_in s)
signature_within xs ys s w v p q = all_joined (flat_map extern_funcs s.imports) (flat_map extern_funcs s.exports) (subst (λ (l : List NamedExtern). AreWithin (flat_map extern_funcs l)) (sym p) w) (subst (λ (l : List NamedExtern). AreWithin (flat_map extern_funcs l)) (sym q) v)

-- what was made stays among more types
pub made_stays : (fronts : List Front) (stay : ItemsStay) (there : ItemsStayThere) (old new : Types) (es : List SharedExtern) → Extends (types_of old) (types_of new) → Extends (funcs_of old) (funcs_of new) → are_made_there old es ≡ true → made fronts new es ≡ made fronts old es
made_stays fronts stay there old new es e g h = made_kept fronts stay there old new e g es h

all_stay_there : (fronts : List Front) (stay : ItemsStay) (there : ItemsStayThere) (types more : List Ty) (funcs further : List FuncTy) (e : Extends types more) (g : Extends funcs further) (es : List SharedExtern) → are_there fronts stay there types more funcs further e g types funcs es ≡ true → are_there fronts stay there types more funcs further e g more further es ≡ true
all_stay_there fronts stay there types more funcs further e g [] h = refl
all_stay_there fronts stay there types more funcs further e g (x ∷ es) h =
    let a = both_left (is_shared_there (length types) (length funcs) x.desc) (are_there fronts stay there types more funcs further e g types funcs es) h in
    let b = both_right (is_shared_there (length types) (length funcs) x.desc) (are_there fronts stay there types more funcs further e g types funcs es) h in
    and_from (is_shared_there (length more) (length further) x.desc) (are_there fronts stay there types more funcs further e g more further es) (desc_more fronts stay there types more funcs further e g x.desc a) (all_stay_there fronts stay there types more funcs further e g es b)

pub made_there : (fronts : List Front) (stay : ItemsStay) (there : ItemsStayThere) (old new : Types) (es : List SharedExtern) → Extends (types_of old) (types_of new) → Extends (funcs_of old) (funcs_of new) → are_made_there old es ≡ true → are_made_there new es ≡ true
made_there fronts stay there old new es e g h = all_stay_there fronts stay there (types_of old) (types_of new) (funcs_of old) (funcs_of new) e g es h

-- imports or exports whose names have these fronts
pub listed_of : (fronts : List Front) (t : Types) (x : SharedExterns) → x.fronts.items ≡ fronts → shared_externs_of (types_of t) (funcs_of t) x ≡ made fronts t x.externs.items
listed_of fronts t x e = ap (λ (fs : List Front). made fs t x.externs.items) e

pub at_index : {A B : Type 0} (view : A → B) (xs : List A) (n : ℕ) (d : A) → n < length xs → slice_get (map view xs) n ≡ Some (view (slice_index_or xs n d))
at_index view [] n d lt = absurd (omega (arith, lt))
at_index view (x ∷ xs) zero d lt = refl
at_index view (x ∷ xs) (suc n) d lt = at_index view xs n d (omega (arith, lt))
