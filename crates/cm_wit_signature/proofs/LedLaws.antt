-- Names lead to types just where the tests say so.
use Rattle.std.proofs.Common.{◌≡◌, ◌↔◌, ℕ, zero, suc, ◌+◌, ◌≤◌, Bool, true, ◌&&◌, is_some, List, [], ◌∷◌, ◌++◌, length, map, Option, Some, None, MatchOption, slice_get, refl, sym, ap, subst, ◌∙◌, arith}
use Rattle.std.specs.List.{AllByRecursion, list_all}
use Rattle.std.proofs.lemmas.Bool.{and_from}
use Rattle.cm_wit_graph.specs.Graphs.{IsMarked}
use Rattle.cm_names.specs.Keys.{Key}
use Rattle.cm_wit_reading.specs.Types.{Ty, Tys, primitive, named, borrow, list, fixed_list, option, tuple, plain_result, ok_result, error_result, result, no_types, types}
use Rattle.cm_wit_reading.specs.Signatures.{Typed, Func}
use Rattle.cm_wit_reading.specs.Trees.{ResourceFunc, method, static, constructor, WorldItem, WorldExtern, interface_at, named_func, imports, exports, File}
use Rattle.cm_wit_worlds.specs.Interfaces.{PlacedInterface, PlacedWorld, interfaces}
use Rattle.cm_wit_tables.specs.Declarations.{Declaration, keys_of, target, names_in, names_in_all, names_in_payload}
use Rattle.cm_wit_tables.specs.TypeFaults.{IsResource, LeadsToType, LeadsToResource, borrowed_in, borrowed_in_all, borrowed_in_payload}
use Rattle.cm_wit_tables.specs.Worlds.{Instance}
use Rattle.cm_wit_signature.specs.Members.{Member, used, declared, of_resource, function, members}
use Rattle.cm_wit_signature.specs.Signatures.{item_func, extern_func}
use Rattle.cm_wit_signature.specs.Named.{Lead, ParamsHaveTypes, FuncHasTypes, ResourceFuncHasTypes, MemberHasTypes, InstancesHaveTypes, OwnFuncsHaveTypes, names_in_params, borrowed_in_params}
use Rattle.cm_wit_signature.specs.Tests as test
use Rattle.cm_lemmas.proofs.Lists.{all_both, all_left, all_right}
use Rattle.cm_lemmas.proofs.Bools.{both_true}
use Rattle.cm_lemmas.proofs.Options.{some_there}

module _ (ds : List Declaration) (marks : List Bool) (marked : (k : ℕ) → IsMarked marks k ↔ IsResource ds k) where
  abbrev keys : List Key
  keys = keys_of ds

  module _ (l : ℕ) where
    name_leads : (n : List ℕ) → test.is_led keys l n ≡ true → LeadsToType ds (l, n)
    name_leads n h = some_there (target ds (l, n)) h

    leads_name : (n : List ℕ) → LeadsToType ds (l, n) → test.is_led keys l n ≡ true
    leads_name n h = ap (λ (o : Option ℕ). is_some o) h.1

    at_place : (n : List ℕ) (o : Option ℕ) → target ds (l, n) ≡ o → test.is_marked_place marks o ≡ true → LeadsToResource ds (l, n)
    at_place n None e h = absurd cc
    at_place n (Some j) e h = (j, e, (marked j).0 h)

    resource_leads : (n : List ℕ) → test.is_resource_led keys marks l n ≡ true → LeadsToResource ds (l, n)
    resource_leads n h = at_place n (target ds (l, n)) refl h

    leads_resource : (n : List ℕ) → LeadsToResource ds (l, n) → test.is_resource_led keys marks l n ≡ true
    leads_resource n h = ap (test.is_marked_place marks) h.1 ∙ (marked h.0).1 h.2

    joined : (xs ys us vs : List (List ℕ)) → Lead ds l xs us → Lead ds l ys vs → Lead ds l (xs ++ ys) (us ++ vs)
    joined xs ys us vs p q = (all_both (λ n. LeadsToType ds (l, n)) xs ys p.0 q.0, all_both (λ n. LeadsToResource ds (l, n)) us vs p.1 q.1)

    first_of : (xs ys us vs : List (List ℕ)) → Lead ds l (xs ++ ys) (us ++ vs) → Lead ds l xs us
    first_of xs ys us vs p = (all_left (λ n. LeadsToType ds (l, n)) xs ys p.0, all_left (λ n. LeadsToResource ds (l, n)) us vs p.1)

    rest_of : (xs ys us vs : List (List ℕ)) → Lead ds l (xs ++ ys) (us ++ vs) → Lead ds l ys vs
    rest_of xs ys us vs p = (all_right (λ n. LeadsToType ds (l, n)) xs ys p.0, all_right (λ n. LeadsToResource ds (l, n)) us vs p.1)

    mutual
      type_leads : (t : Ty) → test.type_led keys marks l t ≡ true → Lead ds l (names_in t) (borrowed_in t)
      type_leads (primitive p) h = (tt, tt)
      type_leads (named n) h = ((name_leads n h, tt), tt)
      type_leads (borrow n) h = let q = both_true (test.is_led keys l n) (test.is_resource_led keys marks l n) h in ((name_leads n q.0, tt), (resource_leads n q.1, tt))
      type_leads (list t) h = type_leads t h
      type_leads (fixed_list t n) h = type_leads t h
      type_leads (option t) h = type_leads t h
      type_leads (tuple ts) h = types_lead ts h
      type_leads plain_result h = (tt, tt)
      type_leads (ok_result t) h = type_leads t h
      type_leads (error_result t) h = type_leads t h
      type_leads (result t u) h = let q = both_true (test.type_led keys marks l t) (test.type_led keys marks l u) h in joined (names_in t) (names_in u) (borrowed_in t) (borrowed_in u) (type_leads t q.0) (type_leads u q.1)

      types_lead : (ts : Tys) → test.types_led keys marks l ts ≡ true → Lead ds l (names_in_all ts) (borrowed_in_all ts)
      types_lead no_types h = (tt, tt)
      types_lead (types t ts) h = let q = both_true (test.type_led keys marks l t) (test.types_led keys marks l ts) h in joined (names_in t) (names_in_all ts) (borrowed_in t) (borrowed_in_all ts) (type_leads t q.0) (types_lead ts q.1)

    mutual
      leads_type : (t : Ty) → Lead ds l (names_in t) (borrowed_in t) → test.type_led keys marks l t ≡ true
      leads_type (primitive p) h = refl
      leads_type (named n) h = leads_name n h.0.0
      leads_type (borrow n) h = and_from (test.is_led keys l n) (test.is_resource_led keys marks l n) (leads_name n h.0.0) (leads_resource n h.1.0)
      leads_type (list t) h = leads_type t h
      leads_type (fixed_list t n) h = leads_type t h
      leads_type (option t) h = leads_type t h
      leads_type (tuple ts) h = lead_types ts h
      leads_type plain_result h = refl
      leads_type (ok_result t) h = leads_type t h
      leads_type (error_result t) h = leads_type t h
      leads_type (result t u) h = and_from (test.type_led keys marks l t) (test.type_led keys marks l u) (leads_type t (first_of (names_in t) (names_in u) (borrowed_in t) (borrowed_in u) h)) (leads_type u (rest_of (names_in t) (names_in u) (borrowed_in t) (borrowed_in u) h))

      lead_types : (ts : Tys) → Lead ds l (names_in_all ts) (borrowed_in_all ts) → test.types_led keys marks l ts ≡ true
      lead_types no_types h = refl
      lead_types (types t ts) h = and_from (test.type_led keys marks l t) (test.types_led keys marks l ts) (leads_type t (first_of (names_in t) (names_in_all ts) (borrowed_in t) (borrowed_in_all ts) h)) (lead_types ts (rest_of (names_in t) (names_in_all ts) (borrowed_in t) (borrowed_in_all ts) h))

    params_lead : (ps : List Typed) → test.params_led keys marks l ps ≡ true → ParamsHaveTypes ds l ps
    params_lead [] h = (tt, tt)
    params_lead (p ∷ ps) h = let q = both_true (test.type_led keys marks l p.1) (test.params_led keys marks l ps) h in joined (names_in p.1) (names_in_params ps) (borrowed_in p.1) (borrowed_in_params ps) (type_leads p.1 q.0) (params_lead ps q.1)

    lead_params : (ps : List Typed) → ParamsHaveTypes ds l ps → test.params_led keys marks l ps ≡ true
    lead_params [] h = refl
    lead_params (p ∷ ps) h = and_from (test.type_led keys marks l p.1) (test.params_led keys marks l ps) (leads_type p.1 (first_of (names_in p.1) (names_in_params ps) (borrowed_in p.1) (borrowed_in_params ps) h)) (lead_params ps (rest_of (names_in p.1) (names_in_params ps) (borrowed_in p.1) (borrowed_in_params ps) h))

    payload_leads : (t : Option Ty) → test.payload_led keys marks l t ≡ true → Lead ds l (names_in_payload t) (borrowed_in_payload t)
    payload_leads None h = (tt, tt)
    payload_leads (Some t) h = type_leads t h

    leads_payload : (t : Option Ty) → Lead ds l (names_in_payload t) (borrowed_in_payload t) → test.payload_led keys marks l t ≡ true
    leads_payload None h = refl
    leads_payload (Some t) h = leads_type t h

    func_leads : (f : Func) → test.func_led keys marks l f ≡ true → FuncHasTypes ds l f
    func_leads f h = let q = both_true (test.params_led keys marks l f.params) (test.payload_led keys marks l f.result) h in (params_lead f.params q.0, payload_leads f.result q.1)

    leads_func : (f : Func) → FuncHasTypes ds l f → test.func_led keys marks l f ≡ true
    leads_func f h = and_from (test.params_led keys marks l f.params) (test.payload_led keys marks l f.result) (lead_params f.params h.0) (leads_payload f.result h.1)

    resource_func_leads : (f : ResourceFunc) → test.resource_func_led keys marks l f ≡ true → ResourceFuncHasTypes ds l f
    resource_func_leads (method n f) h = func_leads f h
    resource_func_leads (static n f) h = func_leads f h
    resource_func_leads (constructor ps) h = params_lead ps h

    leads_resource_func : (f : ResourceFunc) → ResourceFuncHasTypes ds l f → test.resource_func_led keys marks l f ≡ true
    leads_resource_func (method n f) h = leads_func f h
    leads_resource_func (static n f) h = leads_func f h
    leads_resource_func (constructor ps) h = lead_params ps h

    member_leads : (m : Member) → test.member_led keys marks l m ≡ true → MemberHasTypes ds l m
    member_leads (used n) h = name_leads n h
    member_leads (declared n) h = name_leads n h
    member_leads (of_resource n f) h = let q = both_true (test.is_resource_led keys marks l n) (test.resource_func_led keys marks l f) h in (resource_leads n q.0, resource_func_leads f q.1)
    member_leads (function n f) h = func_leads f h

    leads_member : (m : Member) → MemberHasTypes ds l m → test.member_led keys marks l m ≡ true
    leads_member (used n) h = leads_name n h
    leads_member (declared n) h = leads_name n h
    leads_member (of_resource n f) h = and_from (test.is_resource_led keys marks l n) (test.resource_func_led keys marks l f) (leads_resource n h.0) (leads_resource_func f h.1)
    leads_member (function n f) h = leads_func f h

    members_lead : (ms : List Member) → list_all (test.member_led keys marks l) ms ≡ true → AllByRecursion (MemberHasTypes ds l) ms
    members_lead [] h = tt
    members_lead (m ∷ ms) h = let q = both_true (test.member_led keys marks l m) (list_all (test.member_led keys marks l) ms) h in (member_leads m q.0, members_lead ms q.1)

    lead_members : (ms : List Member) → AllByRecursion (MemberHasTypes ds l) ms → list_all (test.member_led keys marks l) ms ≡ true
    lead_members [] h = refl
    lead_members (m ∷ ms) h = and_from (test.member_led keys marks l m) (list_all (test.member_led keys marks l) ms) (leads_member m h.0) (lead_members ms h.1)

    -- ---- functions of the world itself

    extern_leads : (e : WorldExtern) → test.extern_led keys marks l e ≡ true → MatchOption (extern_func e) (Unit {0}) (λ f. FuncHasTypes ds l f.1)
    extern_leads (interface_at path) h = tt
    extern_leads (named_func n f) h = func_leads f h

    leads_extern : (e : WorldExtern) → MatchOption (extern_func e) (Unit {0}) (λ f. FuncHasTypes ds l f.1) → test.extern_led keys marks l e ≡ true
    leads_extern (interface_at path) h = refl
    leads_extern (named_func n f) h = leads_func f h

    item_leads : (e : WorldItem) → test.item_led keys marks l e ≡ true → MatchOption (item_func e) (Unit {0}) (λ f. FuncHasTypes ds l f.1)
    item_leads (imports e) h = extern_leads e h
    item_leads (exports e) h = extern_leads e h

    leads_item : (e : WorldItem) → MatchOption (item_func e) (Unit {0}) (λ f. FuncHasTypes ds l f.1) → test.item_led keys marks l e ≡ true
    leads_item (imports e) h = leads_extern e h
    leads_item (exports e) h = leads_extern e h

    items_lead : (es : List WorldItem) → list_all (test.item_led keys marks l) es ≡ true → AllByRecursion (λ e. MatchOption (item_func e) (Unit {0}) (λ f. FuncHasTypes ds l f.1)) es
    items_lead [] h = tt
    items_lead (e ∷ es) h = let q = both_true (test.item_led keys marks l e) (list_all (test.item_led keys marks l) es) h in (item_leads e q.0, items_lead es q.1)

    lead_items : (es : List WorldItem) → AllByRecursion (λ e. MatchOption (item_func e) (Unit {0}) (λ f. FuncHasTypes ds l f.1)) es → list_all (test.item_led keys marks l) es ≡ true
    lead_items [] h = refl
    lead_items (e ∷ es) h = and_from (test.item_led keys marks l e) (list_all (test.item_led keys marks l) es) (leads_item e h.0) (lead_items es h.1)

  -- ---- instances

  module _ (all : List PlacedInterface) where
    -- the members of each of these instances, of which the first has the l-th list of names
    abbrev Typed_from : ℕ → List Instance → Type 0
    Typed_from l xs = (k : ℕ) (x : Instance) (i : PlacedInterface) → slice_get xs k ≡ Some x → slice_get all x.interface ≡ Some i → AllByRecursion (MemberHasTypes ds (l + k)) (members i.interface)

    one_leads : (l : ℕ) (o : Option PlacedInterface) → test.interface_led keys marks l o ≡ true → (i : PlacedInterface) → o ≡ Some i → AllByRecursion (MemberHasTypes ds l) (members i.interface)
    one_leads l None h i e = absurd cc
    one_leads l (Some j) h i e = let same : j ≡ i = cc in subst (λ (x : PlacedInterface). AllByRecursion (MemberHasTypes ds l) (members x.interface)) same (members_lead l (members j.interface) h)

    leads_one : (l : ℕ) (o : Option PlacedInterface) → ((i : PlacedInterface) → o ≡ Some i → AllByRecursion (MemberHasTypes ds l) (members i.interface)) → test.interface_led keys marks l o ≡ true
    leads_one l None h = refl
    leads_one l (Some i) h = lead_members l (members i.interface) (h i refl)

    instances_lead : (l : ℕ) (xs : List Instance) → test.instances_led all keys marks l xs ≡ true → Typed_from l xs
    instances_lead l [] h k x i e q = absurd cc
    instances_lead l (y ∷ ys) h zero x i e q =
        let p = both_true (test.interface_led keys marks l (slice_get all y.interface)) (test.instances_led all keys marks (l + 1) ys) h in
        let same : y ≡ x = cc in
        subst (λ (m : ℕ). AllByRecursion (MemberHasTypes ds m) (members i.interface)) (omega arith)
        (one_leads l (slice_get all y.interface) p.0 i (ap (λ (z : Instance). slice_get all z.interface) same ∙ q))
    instances_lead l (y ∷ ys) h (suc k) x i e q =
        let p = both_true (test.interface_led keys marks l (slice_get all y.interface)) (test.instances_led all keys marks (l + 1) ys) h in
        subst (λ (m : ℕ). AllByRecursion (MemberHasTypes ds m) (members i.interface)) (omega arith) (instances_lead (l + 1) ys p.1 k x i e q)

    lead_instances : (l : ℕ) (xs : List Instance) → Typed_from l xs → test.instances_led all keys marks l xs ≡ true
    lead_instances l [] h = refl
    lead_instances l (y ∷ ys) h =
        and_from (test.interface_led keys marks l (slice_get all y.interface)) (test.instances_led all keys marks (l + 1) ys)
        (leads_one l (slice_get all y.interface) (λ i q. subst (λ (m : ℕ). AllByRecursion (MemberHasTypes ds m) (members i.interface)) (omega arith) (h 0 y i refl q)))
        (lead_instances (l + 1) ys (λ k x i e q. subst (λ (m : ℕ). AllByRecursion (MemberHasTypes ds m) (members i.interface)) (omega arith) (h (suc k) x i e q)))

    pub instances_typed : (xs : List Instance) → (test.instances_led all keys marks 0 xs ≡ true) ↔ ((k : ℕ) (x : Instance) (i : PlacedInterface) → slice_get xs k ≡ Some x → slice_get all x.interface ≡ Some i → AllByRecursion (MemberHasTypes ds k) (members i.interface))
    instances_typed xs = (
      (λ h k x i e q. subst (λ (m : ℕ). AllByRecursion (MemberHasTypes ds m) (members i.interface)) (omega arith) (instances_lead 0 xs h k x i e q)),
      (λ h. lead_instances 0 xs (λ k x i e q. subst (λ (m : ℕ). AllByRecursion (MemberHasTypes ds m) (members i.interface)) (omega arith) (h k x i e q))),
    )

  pub funcs_typed : (w : PlacedWorld) (l : ℕ) → (list_all (test.item_led keys marks l) w.world.items ≡ true) ↔ OwnFuncsHaveTypes w ds l
  funcs_typed w l = ((λ h. items_lead l w.world.items h), (λ h. lead_items l w.world.items h))

  -- the tests together
  pub all_typed : (fs : List File) (all : List PlacedInterface) → all ≡ interfaces fs → (w : PlacedWorld) (l : ℕ) (xs : List Instance) → ((test.instances_led all keys marks 0 xs && list_all (test.item_led keys marks l) w.world.items) ≡ true) ↔ (InstancesHaveTypes fs ds xs × OwnFuncsHaveTypes w ds l)
  all_typed fs all e w l xs =
      subst (λ (a : List PlacedInterface). ((test.instances_led a keys marks 0 xs && list_all (test.item_led keys marks l) w.world.items) ≡ true) ↔ (InstancesHaveTypes fs ds xs × OwnFuncsHaveTypes w ds l)) (sym e) (
        (λ h. let q = both_true (test.instances_led (interfaces fs) keys marks 0 xs) (list_all (test.item_led keys marks l) w.world.items) h in ((instances_typed (interfaces fs) xs).0 q.0, (funcs_typed w l).0 q.1)),
        (λ h. and_from (test.instances_led (interfaces fs) keys marks 0 xs) (list_all (test.item_led keys marks l) w.world.items) ((instances_typed (interfaces fs) xs).1 h.0) ((funcs_typed w l).1 h.1)),
      )

  pub typed_by : (fs : List File) (all : List PlacedInterface) → all ≡ interfaces fs → (w : PlacedWorld) (l : ℕ) (xs : List Instance) (ks : List Key) (b i m : Bool) → ks ≡ keys_of ds → b ≡ (i && m) → i ≡ test.instances_led all ks marks 0 xs → m ≡ list_all (test.item_led ks marks l) w.world.items → (b ≡ true) ↔ (InstancesHaveTypes fs ds xs × OwnFuncsHaveTypes w ds l)
  typed_by fs all e w l xs ks b i m k p q r =
      let same : b ≡ (test.instances_led all (keys_of ds) marks 0 xs && list_all (test.item_led (keys_of ds) marks l) w.world.items) =
      p ∙ (ap (λ (x : Bool). x && m) (q ∙ ap (λ (y : List Key). test.instances_led all y marks 0 xs) k) ∙ ap (λ (x : Bool). test.instances_led all (keys_of ds) marks 0 xs && x) (r ∙ ap (λ (y : List Key). list_all (test.item_led y marks l) w.world.items) k)) in
      subst (λ (x : Bool). (x ≡ true) ↔ (InstancesHaveTypes fs ds xs × OwnFuncsHaveTypes w ds l)) (sym same) (all_typed fs all e w l xs)

-- ---- past the end

get_past : {A B : Type 0} (view : A → B) (xs : List A) (k : ℕ) → length xs ≤ k → slice_get (map view xs) k ≡ None
get_past view [] zero le = refl
get_past view [] (suc k) le = refl
get_past view (x ∷ xs) zero le = absurd (omega (arith, le))
get_past view (x ∷ xs) (suc k) le = get_past view xs k (omega (arith, le))

pub none_led : {A : Type 0} (view : A → PlacedInterface) (keys : List Key) (marks : List Bool) (l : ℕ) (xs : List A) (k : ℕ) → length xs ≤ k → true ≡ test.interface_led keys marks l (slice_get (map view xs) k)
none_led view keys marks l xs k le = sym (ap (test.interface_led keys marks l) (get_past view xs k le))
