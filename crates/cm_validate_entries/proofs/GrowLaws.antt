-- Entries among more types stand for what they stood for.
use Rattle.std.proofs.Common.{◌≡◌, ℕ, ◌+◌, ◌<◌, ◌≤◌, Bool, true, ◌&&◌, List, [], ◌∷◌, ◌++◌, length, map, nat_lt, Option, Some, None, refl, sym, ap, ◌∙◌, arith, subst, length-append}
use Rattle.std.specs.Prelude.{is_none}
use Rattle.std.proofs.lemmas.Bool.{ltb-true, lt-ltb}
use Rattle.std.proofs.lemmas.List.{get_or_append_left}
use Rattle.std.specs.Borrow.{Bor}
use Rattle.std.specs.List.{AllByRecursion, list_all}
use Rattle.cm_validate_core.specs.NameMaps.{entries_of}
use Rattle.cm_types.specs.Types.{Ty, FuncTy}
use Rattle.cm_types.specs.Signatures.{ItemTy, NamedItem, NamedExtern, func_item, equal_type}
use Rattle.cm_types.specs.Signatures as externs
use Rattle.cm_types_arena.specs.Replaced.{replaced, replaced_func}
use Rattle.cm_types_arena.specs.declared.moves.Move.{Move}
use Rattle.cm_types_arena.specs.Placed.{moved_by, placed_type, placed_func, is_there}
use Rattle.cm_types_arena.specs.Instances.{desc_of, item_of, items_of, is_desc_there, are_items_there, replaced_item}
use Rattle.cm_types_arena.specs.declared.placed.Placed.{Placed}
use Rattle.cm_types_arena.specs.declared.instances.Item.{Item}
use Rattle.cm_types_arena.specs.declared.instances.ItemDesc.{ItemDesc}
use Rattle.cm_types_arena.specs.declared.instances.ItemDesc.TheVariants as item
use Rattle.cm_types_arena.specs.Externs.{extern_of, extern_desc_of, is_extern_there}
use Rattle.cm_types_arena.specs.declared.externs.Extern.{Extern}
use Rattle.cm_types_arena.specs.declared.externs.ExternDesc.{ExternDesc}
use Rattle.cm_types_arena.specs.declared.externs.ExternDesc.TheVariants as extern
use Rattle.cm_validate_model.specs.Definitions.{ExportDef, MemberDef, NamedMember, exported_func, exported_instance, func_member, func_type, imported, instance_type, lifted, type_member, value}
use Rattle.cm_validate_model.specs.Counted.{IsCounted, IsFuncCounted}
use Rattle.cm_validate_items.specs.InstanceTypes.{instance_type_of}
use Rattle.cm_validate_types.specs.Entries.{def_of, is_entry_there, is_at_place}
use Rattle.cm_validate_types.specs.Settled.{AreItemsSettled, IsDescSettled, IsEntrySettled, WhereMoved}
use Rattle.cm_validate_types.specs.declared.entries.TypeEntry.{TypeEntry}
use Rattle.cm_validate_types.specs.declared.entries.TypeEntry.TheVariants as entry
use Rattle.cm_validate_entries.specs.Entries.{are_members_there, func_def, is_func_there, is_member_there, item_member, item_members, member_def, members_of, named_member}
use Rattle.cm_validate_model.specs.Items.{Item as SpaceItem}
use Rattle.cm_validate_model.specs.Spaces.{Spaces, after_item, new_types}
use Rattle.std.proofs.lemmas.List.{append-nil, map-append}
use Rattle.cm_validate_entries.proofs.StepLaws.{all_more}
use Rattle.cm_validate_entries.specs.declared.spaces.ComponentSpaces.{ComponentSpaces}
use Rattle.cm_validate_entries.specs.ComponentSpaces.{AreTypesOf, IsComponentOf, export_def, exported_def, is_exported_there}
use Rattle.cm_validate_entries.specs.declared.entries.FuncEntry.{FuncEntry}
use Rattle.cm_validate_entries.specs.declared.entries.FuncEntry.TheVariants as func
use Rattle.cm_validate_entries.specs.declared.entries.InstanceEntry.{InstanceEntry}
use Rattle.cm_validate_entries.specs.declared.entries.InstanceEntry.TheVariants as instance
use Rattle.cm_validate_entries.specs.declared.entries.MemberEntry.{MemberEntry}
use Rattle.cm_validate_entries.specs.declared.entries.MemberEntry.TheVariants as member
use Rattle.cm_validate_entries.specs.declared.spaces.ExportEntry.{ExportEntry}
use Rattle.cm_validate_entries.specs.declared.spaces.ExportedEntry.{ExportedEntry}
use Rattle.cm_validate_entries.specs.declared.spaces.ExportedEntry.TheVariants as export
use Rattle.cm_lemmas.proofs.Lists.{all_push}
use Rattle.cm_lemmas.proofs.Bools.{both_left, both_right}

-- what holds of each element of a list that passes holds of all
mapped_same : {A B : Type 0} (test : A → Bool) (f g : A → B) → ((x : A) → test x ≡ true → f x ≡ g x) → (xs : List A) → list_all test xs ≡ true → map f xs ≡ map g xs
mapped_same test f g each [] e = refl
mapped_same test f g each (x ∷ xs) e =
    ap (λ y. y ∷ map f xs) (each x (both_left (test x) (list_all test xs) e))
    ∙ ap (λ ys. g x ∷ ys) (mapped_same test f g each xs (both_right (test x) (list_all test xs) e))

passes_more : {A : Type 0} (test more : A → Bool) → ((x : A) → test x ≡ true → more x ≡ true) → (xs : List A) → list_all test xs ≡ true → list_all more xs ≡ true
passes_more test more each [] e = refl
passes_more test more each (x ∷ xs) e =
    ap (λ b. b && list_all more xs) (each x (both_left (test x) (list_all test xs) e)) ∙ passes_more test more each xs (both_right (test x) (list_all test xs) e)

-- ---- what they stand for

module _ (types more : List Ty) (funcs others : List FuncTy) where
  abbrev U : List Ty
  U = types ++ more

  abbrev G : List FuncTy
  G = funcs ++ others

  type_kept : (p : Placed) → is_there (length types) p ≡ true → placed_type U p ≡ placed_type types p
  type_kept p h = ap (replaced (moved_by p.by)) (get_or_append_left types more _ p.place (ltb-true p.place (length types) h))

  func_kept : (p : Placed) → is_there (length funcs) p ≡ true → placed_func G p ≡ placed_func funcs p
  func_kept p h = ap (replaced_func (moved_by p.by)) (get_or_append_left funcs others _ p.place (ltb-true p.place (length funcs) h))

  pub func_def_kept : (f : FuncEntry) → is_func_there (length funcs) f ≡ true → func_def G f ≡ func_def funcs f
  func_def_kept (func.Lifted core_func p options) h = ap (λ (t : FuncTy). lifted core_func t options.now) (func_kept p (both_left (is_there (length funcs) p) (is_none p.by) h))
  func_def_kept (func.Imported import number p) h = ap (imported import number) (func_kept p h)

  member_kept : (m : MemberEntry) → is_member_there (length types) (length funcs) m ≡ true → member_def U G m ≡ member_def types funcs m
  member_kept (member.Func f) h = ap func_member (func_def_kept f h)
  member_kept (member.Value p) h = ap (λ (t : Ty). type_member (value t)) (type_kept p h)
  member_kept (member.Resource n) h = refl

  item_there : (import : ℕ) (by : Move) (number : ℕ) (d : ItemDesc) → is_desc_there (length types) (length funcs) d ≡ true → is_member_there (length types) (length funcs) (item_member import by number d) ≡ true
  item_there import by number (item.Func p) e = e
  item_there import by number (item.EqualType p) e = e
  item_there import by number (item.EqualResource n) e = refl
  item_there import by number (item.FreshResource n) e = refl

  item_members_kept : (import : ℕ) (by : Move) (next : ℕ) (xs : List Item) → are_items_there (length types) (length funcs) xs ≡ true → item_members U G import by next xs ≡ item_members types funcs import by next xs
  item_members_kept import by next [] h = refl
  item_members_kept import by next (x ∷ xs) h =
      ap (λ (d : MemberDef). record { name = x.name; def = d } ∷ item_members U G import by (next + 1) xs)
      (member_kept (item_member import by next x.desc) (item_there import by next x.desc (both_left (is_desc_there (length types) (length funcs) x.desc) (are_items_there (length types) (length funcs) xs) h)))
      ∙ ap (λ (ms : List NamedMember). record { name = x.name; def = member_def types funcs (item_member import by next x.desc) } ∷ ms)
      (item_members_kept import by (next + 1) xs (both_right (is_desc_there (length types) (length funcs) x.desc) (are_items_there (length types) (length funcs) xs) h))

  named_kept : (e : Bor (List ℕ) × MemberEntry) → is_member_there (length types) (length funcs) e.1 ≡ true → named_member U G e ≡ named_member types funcs e
  named_kept e h = ap (λ (d : MemberDef). record { name = e.0.now; def = d }) (member_kept e.1 h)

  pub members_kept : (i : InstanceEntry) → are_members_there (length types) (length funcs) i ≡ true → members_of U G i ≡ members_of types funcs i
  members_kept (instance.Imported import items by) h = item_members_kept import by 0 (instance_type_of items.value).items.items h
  members_kept (instance.Exporting members) h = mapped_same (λ e. is_member_there (length types) (length funcs) e.1) (named_member U G) (named_member types funcs) named_kept (entries_of members.value) h

  desc_kept : (d : ItemDesc) → is_desc_there (length types) (length funcs) d ≡ true → desc_of U G d ≡ desc_of types funcs d
  desc_kept (item.Func p) h = ap func_item (func_kept p h)
  desc_kept (item.EqualType p) h = ap equal_type (type_kept p h)
  desc_kept (item.EqualResource n) h = refl
  desc_kept (item.FreshResource n) h = refl

  item_kept : (x : Item) → is_desc_there (length types) (length funcs) x.desc ≡ true → item_of U G x ≡ item_of types funcs x
  item_kept x h = ap (λ (d : ItemTy). record { name = x.name; desc = d }) (desc_kept x.desc h)

  items_kept : (xs : List Item) → are_items_there (length types) (length funcs) xs ≡ true → items_of U G xs ≡ items_of types funcs xs
  items_kept xs h = mapped_same (λ x. is_desc_there (length types) (length funcs) x.desc) (item_of U G) (item_of types funcs) item_kept xs h

  extern_kept : (e : ExternDesc) → is_extern_there (length types) (length funcs) e ≡ true → extern_desc_of U G e ≡ extern_desc_of types funcs e
  extern_kept (extern.Func p) h = ap externs.func (func_kept p h)
  extern_kept (extern.Instance ty by) h = ap (λ (is : List NamedItem). externs.instance (map (replaced_item (moved_by by)) is)) (items_kept ty.value.items.items h)

  pub import_kept : (e : Extern) → is_extern_there (length types) (length funcs) e.desc ≡ true → extern_of U G e ≡ extern_of types funcs e
  import_kept e h = ap (λ d. record { name = e.name; desc = d }) (extern_kept e.desc h)

  exported_kept : (e : ExportedEntry) → is_exported_there (length types) (length funcs) e ≡ true → exported_def U G e ≡ exported_def types funcs e
  exported_kept (export.Func f) h = ap exported_func (func_def_kept f h)
  exported_kept (export.Instance i) h = ap exported_instance (members_kept i h)

  pub export_kept : (e : ExportEntry) → is_exported_there (length types) (length funcs) e.def ≡ true → export_def U G e ≡ export_def types funcs e
  export_kept e h = ap (λ (d : ExportDef). record { name = e.name.now; def = d }) (exported_kept e.def h)

  pub type_def_kept : (e : TypeEntry) → is_entry_there (length types) (length funcs) e ≡ true → def_of U G e ≡ def_of types funcs e
  type_def_kept (entry.Value p) h = ap value (type_kept p h)
  type_def_kept (entry.Func p) h = ap func_type (func_kept p (both_left (is_there (length funcs) p) (is_none p.by) h))
  type_def_kept (entry.Resource n) h = refl
  type_def_kept (entry.Instance i) h =
      ap (λ (is : List NamedItem). instance_type (record { items = is; first = (instance_type_of i.value).first; fresh = (instance_type_of i.value).fresh })) (items_kept (instance_type_of i.value).items.items h)

  -- ---- what an import has moved

  where_moved : (o : Option Move) (P Q : Type 0) → (P → Q) → WhereMoved o P → WhereMoved o Q
  where_moved None P Q f w = tt
  where_moved (Some by) P Q f w = f w

  desc_settled : (first : ℕ) (d : ItemDesc) → is_desc_there (length types) (length funcs) d ≡ true → IsDescSettled types funcs first d → IsDescSettled U G first d
  desc_settled first (item.Func p) h w = where_moved p.by (IsFuncCounted first (placed_func funcs p)) (IsFuncCounted first (placed_func G p)) (subst (IsFuncCounted first) (sym (func_kept p h))) w
  desc_settled first (item.EqualType p) h w = where_moved p.by (IsCounted first (placed_type types p)) (IsCounted first (placed_type U p)) (subst (IsCounted first) (sym (type_kept p h))) w
  desc_settled first (item.EqualResource n) h w = tt
  desc_settled first (item.FreshResource n) h w = tt

  items_settled : (first : ℕ) (xs : List Item) → are_items_there (length types) (length funcs) xs ≡ true → AreItemsSettled types funcs first xs → AreItemsSettled U G first xs
  items_settled first [] h w = tt
  items_settled first (x ∷ xs) h w = (
    desc_settled first x.desc (both_left (is_desc_there (length types) (length funcs) x.desc) (are_items_there (length types) (length funcs) xs) h) w.0,
    items_settled first xs (both_right (is_desc_there (length types) (length funcs) x.desc) (are_items_there (length types) (length funcs) xs) h) w.1,
  )

  entry_settled : (e : TypeEntry) → is_entry_there (length types) (length funcs) e ≡ true → IsEntrySettled types funcs e → IsEntrySettled U G e
  entry_settled (entry.Value p) h w = tt
  entry_settled (entry.Func p) h w = tt
  entry_settled (entry.Resource n) h w = tt
  entry_settled (entry.Instance i) h w = items_settled (instance_type_of i.value).first (instance_type_of i.value).items.items h w

  pub all_settled : (es : List TypeEntry) → list_all (is_entry_there (length types) (length funcs)) es ≡ true → AllByRecursion (IsEntrySettled types funcs) es → AllByRecursion (IsEntrySettled U G) es
  all_settled [] h w = tt
  all_settled (e ∷ es) h w = (
    entry_settled e (both_left (is_entry_there (length types) (length funcs) e) (list_all (is_entry_there (length types) (length funcs)) es) h) w.0,
    all_settled es (both_right (is_entry_there (length types) (length funcs) e) (list_all (is_entry_there (length types) (length funcs)) es) h) w.1,
  )

-- ---- places

module _ (t u f g : ℕ) (types : t ≤ u) (funcs : f ≤ g) where
  below_more : (p m n : ℕ) → m ≤ n → nat_lt p m ≡ true → nat_lt p n ≡ true
  below_more p m n le h = let lt : p < m = ltb-true p m h in lt-ltb p n (omega arith)

  at_place_more : (p : Placed) → is_at_place f p ≡ true → is_at_place g p ≡ true
  at_place_more p h =
      rw (below_more p.place f g funcs (both_left (is_there f p) (is_none p.by) h), both_right (is_there f p) (is_none p.by) h) refl

  pub func_there_more : (e : FuncEntry) → is_func_there f e ≡ true → is_func_there g e ≡ true
  func_there_more (func.Lifted core_func p options) h = at_place_more p h
  func_there_more (func.Imported import number p) h = below_more p.place f g funcs h

  member_there_more : (m : MemberEntry) → is_member_there t f m ≡ true → is_member_there u g m ≡ true
  member_there_more (member.Func e) h = func_there_more e h
  member_there_more (member.Value p) h = below_more p.place t u types h
  member_there_more (member.Resource n) h = refl

  desc_there_more : (d : ItemDesc) → is_desc_there t f d ≡ true → is_desc_there u g d ≡ true
  desc_there_more (item.Func p) h = below_more p.place f g funcs h
  desc_there_more (item.EqualType p) h = below_more p.place t u types h
  desc_there_more (item.EqualResource n) h = refl
  desc_there_more (item.FreshResource n) h = refl

  items_there_more : (xs : List Item) → are_items_there t f xs ≡ true → are_items_there u g xs ≡ true
  items_there_more xs h = passes_more (λ x. is_desc_there t f x.desc) (λ x. is_desc_there u g x.desc) (λ x. desc_there_more x.desc) xs h

  pub members_there_more : (i : InstanceEntry) → are_members_there t f i ≡ true → are_members_there u g i ≡ true
  members_there_more (instance.Imported import items by) h = items_there_more (instance_type_of items.value).items.items h
  members_there_more (instance.Exporting members) h = passes_more (λ e. is_member_there t f e.1) (λ e. is_member_there u g e.1) (λ e. member_there_more e.1) (entries_of members.value) h

  pub extern_there_more : (e : ExternDesc) → is_extern_there t f e ≡ true → is_extern_there u g e ≡ true
  extern_there_more (extern.Func p) h = below_more p.place f g funcs h
  extern_there_more (extern.Instance ty by) h = items_there_more ty.value.items.items h

  pub exported_there_more : (e : ExportedEntry) → is_exported_there t f e ≡ true → is_exported_there u g e ≡ true
  exported_there_more (export.Func e) h = func_there_more e h
  exported_there_more (export.Instance i) h = members_there_more i h

  pub type_there_more : (e : TypeEntry) → is_entry_there t f e ≡ true → is_entry_there u g e ≡ true
  type_there_more (entry.Value p) h = below_more p.place t u types h
  type_there_more (entry.Func p) h = at_place_more p h
  type_there_more (entry.Resource n) h = refl
  type_there_more (entry.Instance i) h = items_there_more (instance_type_of i.value).items.items h

-- ---- the spaces

module _ (types more : List Ty) (funcs others : List FuncTy) where
  more_types : length types ≤ length (types ++ more)
  more_types = omega (arith, length-append types more)

  more_funcs : length funcs ≤ length (funcs ++ others)
  more_funcs = omega (arith, length-append funcs others)

  pub component_grows : (c : ComponentSpaces) (s : Spaces) → IsComponentOf types funcs c s → IsComponentOf (types ++ more) (funcs ++ others) c s
  component_grows c s r = record {
    reached = r.reached;
    funcs_are = r.funcs_are ∙ sym (mapped_same (is_func_there (length funcs)) (func_def (funcs ++ others)) (func_def funcs) (func_def_kept types more funcs others) c.funcs.items r.funcs_there);
    instances_are = r.instances_are
        ∙ sym (mapped_same (are_members_there (length types) (length funcs)) (members_of (types ++ more) (funcs ++ others)) (members_of types funcs) (members_kept types more funcs others) c.instances.items r.instances_there);
    resources_are = r.resources_are;
    imports_are = r.imports_are
        ∙ sym (mapped_same (λ e. is_extern_there (length types) (length funcs) e.desc) (extern_of (types ++ more) (funcs ++ others)) (extern_of types funcs) (import_kept types more funcs others) c.imports.items r.imports_there);
    import_names = r.import_names;
    exports_are = r.exports_are
        ∙ sym (mapped_same (λ e. is_exported_there (length types) (length funcs) e.def) (export_def (types ++ more) (funcs ++ others)) (export_def types funcs) (export_kept types more funcs others) c.exports.items r.exports_there);
    export_names = r.export_names;
    funcs_there = passes_more (is_func_there (length funcs)) (is_func_there (length (funcs ++ others))) (func_there_more (length types) (length (types ++ more)) (length funcs) (length (funcs ++ others)) more_types more_funcs) c.funcs.items r.funcs_there;
    instances_there = passes_more (are_members_there (length types) (length funcs)) (are_members_there (length (types ++ more)) (length (funcs ++ others)))
        (members_there_more (length types) (length (types ++ more)) (length funcs) (length (funcs ++ others)) more_types more_funcs) c.instances.items r.instances_there;
    imports_there = passes_more (λ e. is_extern_there (length types) (length funcs) e.desc) (λ e. is_extern_there (length (types ++ more)) (length (funcs ++ others)) e.desc)
        (λ e. extern_there_more (length types) (length (types ++ more)) (length funcs) (length (funcs ++ others)) more_types more_funcs e.desc) c.imports.items r.imports_there;
    exports_there = passes_more (λ e. is_exported_there (length types) (length funcs) e.def) (λ e. is_exported_there (length (types ++ more)) (length (funcs ++ others)) e.def)
        (λ e. exported_there_more (length types) (length (types ++ more)) (length funcs) (length (funcs ++ others)) more_types more_funcs e.def) c.exports.items r.exports_there;
  }

  pub types_grow : (es : List TypeEntry) (s : Spaces) → AreTypesOf types funcs es s → AreTypesOf (types ++ more) (funcs ++ others) es s
  types_grow es s t = record {
    types_are = t.types_are ∙ sym (mapped_same (is_entry_there (length types) (length funcs)) (def_of (types ++ more) (funcs ++ others)) (def_of types funcs) (type_def_kept types more funcs others) es t.types_there);
    types_there = passes_more (is_entry_there (length types) (length funcs)) (is_entry_there (length (types ++ more)) (length (funcs ++ others)))
        (type_there_more (length types) (length (types ++ more)) (length funcs) (length (funcs ++ others)) more_types more_funcs) es t.types_there;
    settled = all_settled types more funcs others es t.types_there t.settled;
  }

-- ---- types after an item

pub no_types : (types : List Ty) (funcs : List FuncTy) (es : List TypeEntry) (s : Spaces) (x : SpaceItem) → new_types s x ≡ [] → AreTypesOf types funcs es s → AreTypesOf types funcs es (after_item s x)
no_types types funcs es s x e t = record {
  types_are = ap (λ v. s.types ++ v) e ∙ append-nil s.types ∙ t.types_are;
  types_there = t.types_there;
  settled = t.settled;
}

pub one_type : (types : List Ty) (funcs : List FuncTy) (es : List TypeEntry) (e : TypeEntry) (s : Spaces) (x : SpaceItem) → new_types s x ≡ def_of types funcs e ∷ []
    → is_entry_there (length types) (length funcs) e ≡ true → IsEntrySettled types funcs e → AreTypesOf types funcs es s → AreTypesOf types funcs (es ++ e ∷ []) (after_item s x)
one_type types funcs es e s x added there settled t = record {
  types_are = ap (λ v. s.types ++ v) added ∙ ap (λ v. v ++ def_of types funcs e ∷ []) t.types_are ∙ sym (map-append (def_of types funcs) es (e ∷ []));
  types_there = all_more (is_entry_there (length types) (length funcs)) es (es ++ e ∷ []) e refl t.types_there there;
  settled = all_push (IsEntrySettled types funcs) es e t.settled settled;
}
