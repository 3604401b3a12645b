-- Instances of inline exports: their items, the names of these, and what they break.
use Rattle.std.proofs.Common.{◌≡◌, ℕ, ◌+◌, ◌<◌, ◌≤◌, true, false, Bool, ◌&&◌, ◌||◌, not, List, [], ◌∷◌, ◌++◌, length, get_or, take, drop, map, Option, Some, None, refl, sym, ap, ◌∙◌, append_assoc, add-one, drop-cons}
use Rattle.std.proofs.lemmas.List.{append-nil, drop_all, map-append, take_all}
use Rattle.std.proofs.lemmas.Option.{slice_get-map}
use Rattle.std.proofs.lemmas.Slice.Eq.{bytes_eq-Decides}
use Rattle.std.specs.List.{flat_map, list_any, slice_get}
use Rattle.std.specs.Option.{option_map}
use Rattle.std.specs.Char.{to_ascii_lowercase}
use Rattle.std.specs.Prelude.{option_to_list}
use Rattle.std.specs.Str.{bytes_eq}
use Rattle.cm_types.specs.Names.{is_same_name}
use Rattle.cm_types.specs.Signatures.{NamedItem}
use Rattle.cm_binary_model.specs.declared.instances.InlineExport.{InlineExport}
use Rattle.cm_binary_model.specs.declared.instances.InstanceExportSort.{InstanceExportSort}
use Rattle.cm_binary_model.specs.declared.instances.InstanceExportSort.TheVariants as member_sort
use Rattle.cm_validate_model.specs.declared.fault.ValidReason.{ValidReason}
use Rattle.cm_validate_model.specs.declared.fault.ValidReason.TheVariants as reason
use Rattle.cm_validate_model.specs.Declarations.{with_item}
use Rattle.cm_validate_model.specs.Definitions.{FuncDef, NamedMember, TypeDef, faulty, func_member, func_type, instance_type, resource, sort_of, type_member, value}
use Rattle.cm_validate_model.specs.ItemNames.{is_well_named, item_names_broken}
use Rattle.cm_validate_model.specs.Items.{instance_item}
use Rattle.cm_validate_model.specs.Reasons.{found, least, lesser, unless}
use Rattle.cm_validate_model.specs.Rules.{are_distinct_texts, broken, member_broken, member_of_sort_broken}
use Rattle.cm_validate_model.specs.Spaces.{Spaces, item_of_member, items_of_members}
use Rattle.cm_validate_model.specs.Spaces.{named_member as member_of_export}
use Rattle.cm_validate_model.specs.TypeRules.{are_distinct_names, is_value_or_resource}
use Rattle.cm_validate_model.specs.declared.sorts.TypeSort.{TypeSort}
use Rattle.cm_validate_instances.specs.Names.{item_name_faults}
use Rattle.cm_validate_instances.specs.ItemSketches.{SketchedItem, named_sketch}
use Rattle.cm_validate_instances.specs.Members.{export_sketches}
use Rattle.cm_validate_model.proofs.SharedLaws.{LeastOfBoth}
use Rattle.cm_lemmas.proofs.Lists.{nil_rest, nil_front}
use Rattle.cm_validate_model.proofs.ReasonsLaws.{none_broken, kept}

-- ---- items of members

items_append : (xs ys : List NamedMember) → items_of_members (xs ++ ys) ≡ items_of_members xs ++ items_of_members ys
items_append [] ys = refl
items_append (x ∷ xs) ys =
    ap (λ v. with_item [] x.name (item_of_member x.def) ++ v) (items_append xs ys)
    ∙ sym (append_assoc (with_item [] x.name (item_of_member x.def)) (items_of_members xs) (items_of_members ys))

abbrev pub all_items : Spaces → List InlineExport → List NamedItem
all_items s es = items_of_members (flat_map (member_of_export s) es)

pub sketches_joined : (s : Spaces) (es : List InlineExport) → flat_map (export_sketches s) es ≡ map named_sketch (all_items s es)
sketches_joined s [] = refl
sketches_joined s (e ∷ es) =
    ap (λ v. export_sketches s e ++ v) (sketches_joined s es)
    ∙ sym (ap (map named_sketch) (items_append (member_of_export s e) (flat_map (member_of_export s) es)) ∙ map-append named_sketch (items_of_members (member_of_export s e)) (all_items s es))

-- ---- what is broken

abbrev pub NamesAreSketched : Type 0
NamesAreSketched = (items : List NamedItem) → least (item_names_broken items) ≡ least (item_name_faults (map named_sketch items))

pub instance_fault : LeastOfBoth → NamesAreSketched → (s : Spaces) (es : List InlineExport) (a b : Option ValidReason) (sketches : List SketchedItem)
    → a ≡ least (flat_map (member_broken s) es) → b ≡ least (item_name_faults sketches) → sketches ≡ flat_map (export_sketches s) es
    → lesser a b ≡ least (broken s (instance_item es))
instance_fault both names s es a b sketches e f g =
    ap (λ v. lesser v b) e
    ∙ ap (lesser (least (flat_map (member_broken s) es))) (f ∙ ap (λ v. least (item_name_faults v)) (g ∙ sketches_joined s es) ∙ sym (names (all_items s es)))
    ∙ sym (both (flat_map (member_broken s) es) (item_names_broken (all_items s es)))

module _ (s : Spaces) (es : List InlineExport) (e : least (broken s (instance_item es)) ≡ None) where
  pub all_fine : flat_map (member_broken s) es ≡ []
  all_fine = nil_front (flat_map (member_broken s) es) (item_names_broken (all_items s es)) (none_broken (broken s (instance_item es)) e)

  pub names_fine : item_names_broken (all_items s es) ≡ []
  names_fine = nil_rest (flat_map (member_broken s) es) (item_names_broken (all_items s es)) (none_broken (broken s (instance_item es)) e)

-- ---- names that differ

same_text : (x y : List ℕ) → bytes_eq x y ≡ true → is_same_name x y ≡ true
same_text x y e = ap (is_same_name x) (sym ((bytes_eq-Decides x y).0 e)) ∙ same_self x
  where
    same_self : (z : List ℕ) → is_same_name z z ≡ true
    same_self z = (bytes_eq-Decides (map to_ascii_lowercase z) (map to_ascii_lowercase z)).1 refl

none_same : (x : List ℕ) (xs : List (List ℕ)) → list_any (is_same_name x) xs ≡ false → list_any (bytes_eq x) xs ≡ false
none_same x [] e = refl
none_same x (y ∷ ys) e = here (bytes_eq x y) (is_same_name x y) refl refl e (none_same x ys)
  where
    here : (a b : Bool) → bytes_eq x y ≡ a → is_same_name x y ≡ b → (b || list_any (is_same_name x) ys) ≡ false → (list_any (is_same_name x) ys ≡ false → list_any (bytes_eq x) ys ≡ false) → (a || list_any (bytes_eq x) ys) ≡ false
    here a true f g h rest = absurd cc
    here true false f g h rest = let wrong : true ≡ false = sym (same_text x y f) ∙ g in absurd cc
    here false false f g h rest = rest h

pub texts_differ : (xs : List (List ℕ)) → are_distinct_names xs ≡ true → are_distinct_texts xs ≡ true
texts_differ [] e = refl
texts_differ (x ∷ xs) e = here (list_any (is_same_name x) xs) refl e (texts_differ xs)
  where
    here : (b : Bool) → list_any (is_same_name x) xs ≡ b → (not b && are_distinct_names xs) ≡ true → (are_distinct_names xs ≡ true → are_distinct_texts xs ≡ true) → (not (list_any (bytes_eq x) xs) && are_distinct_texts xs) ≡ true
    here true f g rest = absurd cc
    here false f g rest = ap (λ b. not b && are_distinct_texts xs) (none_same x xs f) ∙ rest g

-- ---- an export that breaks nothing comes to one item of its name

cons_not : {A : Type 0} (x : A) (xs : List A) {B : Type 0} → x ∷ xs ≡ [] → B
cons_not x xs e = absurd cc

one_func : (name : List ℕ) (o : Option FuncDef) → found (λ (d : FuncDef). []) o ≡ [] → map (λ (i : NamedItem). i.name) (items_of_members (option_to_list (option_map (λ d. record { name = name; def = d }) (option_map func_member o)))) ≡ name ∷ []
one_func name None e = cons_not reason.NoSuchIndex [] e
one_func name (Some f) e = refl

one_type : (name : List ℕ) (o : Option TypeDef) → found (λ d. unless (is_value_or_resource d) reason.WrongSort) (option_map sort_of o) ≡ [] → map (λ (i : NamedItem). i.name) (items_of_members (option_to_list (option_map (λ d. record { name = name; def = d }) (option_map type_member o)))) ≡ name ∷ []
one_type name None e = cons_not reason.NoSuchIndex [] e
one_type name (Some (value t)) e = refl
one_type name (Some (resource n)) e = refl
one_type name (Some (func_type f)) e = cons_not reason.WrongSort [] e
one_type name (Some (instance_type i)) e = cons_not reason.WrongSort [] e
one_type name (Some faulty) e = cons_not reason.WrongSort [] e

one_name : (s : Spaces) (name : List ℕ) (sort : InstanceExportSort) (i : ℕ) → member_of_sort_broken s sort i ≡ [] → map (λ (x : NamedItem). x.name) (items_of_members (member_of_export s (record { name = name; sort = sort; index = i }))) ≡ name ∷ []
one_name s name member_sort.Func i e = one_func name (slice_get s.funcs i) e
one_name s name member_sort.Type i e = one_type name (slice_get s.types i) (ap (λ (v : Option TypeSort). found (λ d. unless (is_value_or_resource d) reason.WrongSort) v) (sym (slice_get-map sort_of s.types i)) ∙ e)

pub names_are : (s : Spaces) (es : List InlineExport) → flat_map (member_broken s) es ≡ [] → map (λ (i : NamedItem). i.name) (all_items s es) ≡ map (λ (x : InlineExport). x.name) es
names_are s [] e = refl
names_are s (x ∷ xs) e =
    ap (map (λ (i : NamedItem). i.name)) (items_append (member_of_export s x) (flat_map (member_of_export s) xs))
    ∙ map-append (λ (i : NamedItem). i.name) (items_of_members (member_of_export s x)) (all_items s xs)
    ∙ ap (λ v. v ++ map (λ (i : NamedItem). i.name) (all_items s xs)) (one_name s x.name x.sort x.index (nil_front (member_broken s x) (flat_map (member_broken s) xs) e))
    ∙ ap (λ v. x.name ∷ v) (names_are s xs (nil_rest (member_broken s x) (flat_map (member_broken s) xs) e))

pub names_differ : (s : Spaces) (es : List InlineExport) → least (broken s (instance_item es)) ≡ None → are_distinct_texts (map (λ (x : InlineExport). x.name) es) ≡ true
names_differ s es e =
    let items = all_items s es in
    let distinct : are_distinct_names (map (λ (i : NamedItem). i.name) items) ≡ true =
    kept (are_distinct_names (map (λ (i : NamedItem). i.name) items)) reason.DuplicateName
    (nil_front (unless (are_distinct_names (map (λ (i : NamedItem). i.name) items)) reason.DuplicateName) (flat_map (λ (i : NamedItem). unless (is_well_named items i) reason.BadAnnotatedName) items) (names_fine s es e)) in
    texts_differ (map (λ (x : InlineExport). x.name) es) (ap are_distinct_names (sym (names_are s es (all_fine s es e))) ∙ distinct)

-- ---- lists that are read from the front

module _ {A B : Type 0} (f : A → List B) (xs : List A) (i : ℕ) (x : A) (lt : i < length xs) (is : x ≡ get_or xs i x) where
  pub split : flat_map f (drop i xs) ≡ f x ++ flat_map f (drop (i + 1) xs)
  split = rw (add-one, drop-cons xs i x lt, ← is) refl

  pub here_empty : flat_map f (drop i xs) ≡ [] → f x ≡ []
  here_empty e = nil_front (f x) (flat_map f (drop (i + 1) xs)) (sym split ∙ e)

  pub later_empty : flat_map f (drop i xs) ≡ [] → flat_map f (drop (i + 1) xs) ≡ []
  later_empty e = nil_rest (f x) (flat_map f (drop (i + 1) xs)) (sym split ∙ e)

  pub read_more : (old new all : List B) → new ≡ old ++ f x → old ++ flat_map f (drop i xs) ≡ all → new ++ flat_map f (drop (i + 1) xs) ≡ all
  read_more old new all e before = ap (λ v. v ++ flat_map f (drop (i + 1) xs)) e ∙ append_assoc old (f x) (flat_map f (drop (i + 1) xs)) ∙ ap (λ v. old ++ v) (sym split) ∙ before

pub read_all : {A B : Type 0} (f : A → List B) (xs : List A) (i : ℕ) (old all : List B) → length xs ≤ i → old ++ flat_map f (drop i xs) ≡ all → old ≡ all
read_all f xs i old all le before = sym (append-nil old) ∙ ap (λ ys. old ++ flat_map f ys) (sym (drop_all i xs le)) ∙ before

pub taken_all : {A B : Type 0} (f : A → List B) (xs : List A) (i : ℕ) → length xs ≤ i → flat_map f (take i xs) ≡ flat_map f xs
taken_all f xs i le = ap (flat_map f) (take_all i xs le)
