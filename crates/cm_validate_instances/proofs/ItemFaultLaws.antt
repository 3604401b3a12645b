-- What the names of items break, by sketches of the items.
use Rattle.std.proofs.Common.{◌≡◌, ℕ, Option, Some, None, Bool, true, false, ◌&&◌, List, [], ◌∷◌, ◌++◌, map, refl, sym, ap, ◌∙◌, if◌then◌else◌, codes}
use Rattle.std.specs.List.{flat_map, list_all}
use Rattle.std.specs.Option.{option_map_or}
use Rattle.std.specs.Str.{bytes_eq}
use Rattle.std.proofs.lemmas.List.Folds.{list_all-append}
use Rattle.std.proofs.lemmas.Bool.{and_from}
use Rattle.cm_types.specs.ExternNames.{NameTree, plain, method, static, constructor, interface, form_of}
use Rattle.cm_types.specs.Signatures.{ItemTy, NamedItem, func_item, equal_type, equal_resource, fresh_resource}
use Rattle.cm_types.specs.Types.{Ty, Fields, FuncTy, bool, signed, unsigned, char, string, list, fixed_list, fields, cases, flags, own, borrow, no_fields, field}
use Rattle.cm_types.specs.declared.resource.ResourceId.{ResourceId}
use Rattle.cm_validate_model.specs.declared.fault.ValidReason.{ValidReason}
use Rattle.cm_validate_model.specs.declared.fault.ValidReason.TheVariants as reason
use Rattle.cm_validate_model.specs.ItemNames.{answers_own, is_owned, is_plain, is_self, is_well_named, item_names_broken, resource_named, resource_of_item, takes_self}
use Rattle.cm_validate_model.specs.ItemNames as names
use Rattle.cm_validate_model.specs.Reasons.{least, lesser, unless}
use Rattle.cm_validate_model.specs.TypeRules.{are_distinct_names}
use Rattle.cm_validate_instances.specs.Faults.{is_before_limits}
use Rattle.cm_validate_instances.specs.Sketches.{own_result, resource_borrowed, resource_owned, self_borrow, sketch_func}
use Rattle.cm_validate_instances.specs.Names.{are_all_well_named, is_named_well, is_of, item_name_faults, may_name, may_name_func, resource_under}
use Rattle.cm_validate_instances.specs.ItemSketches.{SketchedItem, named_sketch, resource_sketched, sketch_item, sketch_named}
use Rattle.cm_validate_instances.specs.declared.item_sketches.NamedSketch.{NamedSketch}
use Rattle.cm_validate_model.proofs.SharedLaws.{LeastOfBoth}

-- ---- names, by sketches

resource_told : (d : ItemTy) → resource_of_item d ≡ resource_sketched (sketch_item d)
resource_told (func_item f) = refl
resource_told (equal_type t) = refl
resource_told (equal_resource r) = refl
resource_told (fresh_resource r) = refl

named_told : (items : List NamedItem) (name : List ℕ) → resource_named items name ≡ resource_under (map named_sketch items) name
named_told [] name = refl
named_told (i ∷ is) name =
    ap (λ r. if bytes_eq i.name name then r else resource_named is name) (resource_told i.desc)
    ∙ ap (λ r. if bytes_eq i.name name then resource_sketched (sketch_item i.desc) else r) (named_told is name)

self_told : (r : ResourceId) (t : Ty) → is_self r t ≡ is_of r (resource_borrowed t)
self_told r bool = refl
self_told r (signed w) = refl
self_told r (unsigned w) = refl
self_told r char = refl
self_told r string = refl
self_told r (list t) = refl
self_told r (fixed_list t n) = refl
self_told r (fields k fs) = refl
self_told r (cases k cs) = refl
self_told r (flags ls) = refl
self_told r (own s) = refl
self_told r (borrow s) = refl

owned_told : (r : ResourceId) (t : Ty) → is_owned r t ≡ is_of r (resource_owned t)
owned_told r bool = refl
owned_told r (signed w) = refl
owned_told r (unsigned w) = refl
owned_told r char = refl
owned_told r string = refl
owned_told r (list t) = refl
owned_told r (fixed_list t n) = refl
owned_told r (fields k fs) = refl
owned_told r (cases k cs) = refl
owned_told r (flags ls) = refl
owned_told r (own s) = refl
owned_told r (borrow s) = refl

where_self : (r : ResourceId) (b s : Bool) (o : Option ResourceId) → s ≡ is_of r o → (b && s) ≡ is_of r (if b then o else None)
where_self r true s o e = e
where_self r false s o e = refl

takes_told : (r : ResourceId) (fs : Fields) → takes_self r fs ≡ is_of r (self_borrow fs)
takes_told r no_fields = refl
takes_told r (field l t fs) = where_self r (bytes_eq l (codes "self")) (is_self r t) (resource_borrowed t) (self_told r t)

answers_told : (r : ResourceId) (o : Option Ty) → answers_own r o ≡ is_of r (own_result o)
answers_told r None = refl
answers_told r (Some t) = owned_told r t

map_or : (f g : ResourceId → Bool) (o : Option ResourceId) → ((r : ResourceId) → f r ≡ g r) → option_map_or f o false ≡ option_map_or g o false
map_or f g None h = refl
map_or f g (Some r) h = h r

module _ (items : List NamedItem) where
  abbrev sketched : List SketchedItem
  sketched = map named_sketch items

  func_told : (f : FuncTy) (form : NameTree) → names.may_name_func items f form ≡ may_name_func sketched (sketch_func f) form
  func_told f (plain l) = refl
  func_told f (method r m) =
      map_or (λ s. takes_self s f.params) (λ s. is_of s (self_borrow f.params)) (resource_named items r) (λ s. takes_told s f.params)
      ∙ ap (λ o. option_map_or (λ s. is_of s (self_borrow f.params)) o false) (named_told items r)
  func_told f (static r m) = ap (λ o. option_map_or (λ s. true) o false) (named_told items r)
  func_told f (constructor r) =
      map_or (λ s. answers_own s f.result) (λ s. is_of s (own_result f.result)) (resource_named items r) (λ s. answers_told s f.result)
      ∙ ap (λ o. option_map_or (λ s. is_of s (own_result f.result)) o false) (named_told items r)
  func_told f (interface ns pkg name version) = refl

  item_told : (d : ItemTy) (form : NameTree) → names.may_name items d form ≡ may_name sketched (sketch_item d) form
  item_told (func_item f) form = func_told f form
  item_told (equal_type t) form = refl
  item_told (equal_resource r) form = refl
  item_told (fresh_resource r) form = refl

  form_told : (d : ItemTy) (o : Option NameTree) → option_map_or (names.may_name items d) o false ≡ option_map_or (may_name sketched (sketch_item d)) o false
  form_told d None = refl
  form_told d (Some form) = item_told d form

  one_more : (here rest : Bool) (rs : List ValidReason) → least rs ≡ least (unless rest reason.BadAnnotatedName)
      → least (unless here reason.BadAnnotatedName ++ rs) ≡ least (unless (here && rest) reason.BadAnnotatedName)
  one_more true rest rs e = e
  one_more false true rs e = ap (lesser (Some reason.BadAnnotatedName)) e
  one_more false false rs e = ap (lesser (Some reason.BadAnnotatedName)) e

  all_told : (xs : List NamedItem) → least (flat_map (λ i. unless (is_well_named items i) reason.BadAnnotatedName) xs) ≡ least (unless (list_all (is_named_well sketched) (map named_sketch xs)) reason.BadAnnotatedName)
  all_told [] = refl
  all_told (x ∷ xs) =
      one_more (is_well_named items x) (list_all (is_named_well sketched) (map named_sketch xs)) (flat_map (λ i. unless (is_well_named items i) reason.BadAnnotatedName) xs) (all_told xs)
      ∙ ap (λ b. least (unless (b && list_all (is_named_well sketched) (map named_sketch xs)) reason.BadAnnotatedName)) (form_told x.desc (form_of x.name))

same_names : (xs : List NamedItem) → map (λ i. i.name) xs ≡ map (λ i. i.0) (map named_sketch xs)
same_names [] = refl
same_names (x ∷ xs) = ap (λ ns. x.name ∷ ns) (same_names xs)

pub names_told : LeastOfBoth → (items : List NamedItem) → least (item_names_broken items) ≡ least (item_name_faults (map named_sketch items))
names_told both items =
    let twice = λ (ns : List (List ℕ)). unless (are_distinct_names ns) reason.DuplicateName in
    let bad = unless (are_all_well_named (map named_sketch items)) reason.BadAnnotatedName in
    both (twice (map (λ i. i.name) items)) (flat_map (λ i. unless (is_well_named items i) reason.BadAnnotatedName) items)
    ∙ ap (lesser (least (twice (map (λ i. i.name) items)))) (all_told items items)
    ∙ ap (λ ns. lesser (least (twice ns)) (least bad)) (same_names items)
    ∙ sym (both (twice (map (λ i. i.0) (map named_sketch items))) bad)

-- ---- their numbers

before_unless : (b : Bool) (r : ValidReason) → is_before_limits r ≡ true → list_all is_before_limits (unless b r) ≡ true
before_unless true r h = refl
before_unless false r h = rw h refl

before_each : (f : NamedItem → Bool) (xs : List NamedItem) → list_all is_before_limits (flat_map (λ i. unless (f i) reason.BadAnnotatedName) xs) ≡ true
before_each f [] = refl
before_each f (x ∷ xs) =
    list_all-append is_before_limits (unless (f x) reason.BadAnnotatedName) (flat_map (λ i. unless (f i) reason.BadAnnotatedName) xs)
    ∙ and_from _ _ (before_unless (f x) reason.BadAnnotatedName refl) (before_each f xs)

pub names_before : (items : List NamedItem) → list_all is_before_limits (item_names_broken items) ≡ true
names_before items =
    list_all-append is_before_limits (unless (are_distinct_names (map (λ i. i.name) items)) reason.DuplicateName) (flat_map (λ i. unless (is_well_named items i) reason.BadAnnotatedName) items)
    ∙ and_from _ _ (before_unless (are_distinct_names (map (λ i. i.name) items)) reason.DuplicateName refl) (before_each (is_well_named items) items)

-- the names of items, as the code has them
pub code_names : (xs : List NamedSketch) → map (λ i. i.0) (map sketch_named xs) ≡ map (λ i. i.name) xs
code_names [] = refl
code_names (x ∷ xs) = ap (λ ns. x.name ∷ ns) (code_names xs)
