-- What an inline export comes to.
use Rattle.std.proofs.Common.{◌≡◌, ℕ, true, List, [], ◌∷◌, length, map, Option, Some, None, refl, sym, ap, ◌∙◌}
use Rattle.std.proofs.lemmas.Option.{slice_get-map}
use Rattle.std.specs.List.{slice_get}
use Rattle.std.specs.Prelude.{option_to_list}
use Rattle.std.specs.Option.{option_map}
use Rattle.cm_types.specs.Types.{Ty, FuncTy}
use Rattle.cm_binary_model.specs.declared.instances.InlineExport.{InlineExport}
use Rattle.cm_binary_model.specs.declared.instances.InstanceExportSort.TheVariants as member_sort
use Rattle.cm_validate_model.specs.declared.fault.ValidReason.{ValidReason}
use Rattle.cm_validate_model.specs.declared.fault.ValidReason.TheVariants as reason
use Rattle.cm_validate_model.specs.Definitions.{FuncDef, MemberDef, TypeDef, func_member, sort_of, type_member}
use Rattle.cm_validate_model.specs.Reasons.{found, least, unless}
use Rattle.cm_validate_model.specs.Rules.{member_broken, member_of_sort_broken}
use Rattle.cm_validate_model.specs.Spaces.{Spaces, items_of_members, member_at}
use Rattle.cm_validate_model.specs.Spaces.{named_member as member_of_export}
use Rattle.cm_validate_model.specs.TypeRules.{is_value_or_resource}
use Rattle.cm_validate_model.specs.declared.sorts.TypeSort.{TypeSort}
use Rattle.cm_validate_instances.specs.ItemSketches.{SketchedItem, named_sketch}
use Rattle.cm_validate_types.specs.Entries.{def_of, is_entry_there}
use Rattle.cm_validate_types.specs.declared.entries.TypeEntry.{TypeEntry}
use Rattle.cm_validate_types.specs.declared.entries.TypeEntry.TheVariants as entry
use Rattle.cm_validate_entries.specs.Entries.{func_def, is_func_there, member_def}
use Rattle.cm_validate_entries.specs.declared.entries.FuncEntry.{FuncEntry}
use Rattle.cm_validate_entries.specs.declared.entries.MemberEntry.{MemberEntry}
use Rattle.cm_validate_entries.specs.declared.entries.MemberEntry.TheVariants as member
use Rattle.cm_validate_entries.specs.declared.spaces.ComponentSpaces.{ComponentSpaces}
use Rattle.cm_validate_instances.specs.Members.{IsAnswered, IsBroken, IsFine, Stand, export_sketches, sketch_member, type_answer}
use Rattle.cm_lemmas.proofs.Lists.{all_found}

module _ (types : List Ty) (funcs : List FuncTy) (c : ComponentSpaces) (s : Spaces) (es : List TypeEntry) (t : Stand types funcs c es s) (e : InlineExport) where
  -- the items, by what it names
  abbrev items_by : Option MemberDef → List SketchedItem
  items_by o = map named_sketch (items_of_members (option_to_list (option_map (λ d. record { name = e.name; def = d }) o)))

  members_by : (o : Option MemberDef) → member_at s e.sort e.index ≡ o → items_of_members (member_of_export s e) ≡ items_of_members (option_to_list (option_map (λ d. record { name = e.name; def = d }) o))
  members_by o f = ap (λ (v : Option MemberDef). items_of_members (option_to_list (option_map (λ d. record { name = e.name; def = d }) v))) f

  -- ---- a type

  module _ (sort : e.sort ≡ member_sort.Type) where
    abbrev def_found : Option TypeEntry → Option TypeDef
    def_found o = option_map (def_of types funcs) o

    def_at : (o : Option TypeEntry) → slice_get es e.index ≡ o → slice_get s.types e.index ≡ def_found o
    def_at o is = ap (λ (ts : List TypeDef). slice_get ts e.index) t.types_of.types_are ∙ slice_get-map (def_of types funcs) es e.index ∙ ap (option_map (def_of types funcs)) is

    broken_by : (o : Option TypeEntry) → slice_get es e.index ≡ o → member_broken s e ≡ found (λ d. unless (is_value_or_resource d) reason.WrongSort) (option_map sort_of (def_found o))
    broken_by o is =
        ap (λ v. member_of_sort_broken s v e.index) sort
        ∙ ap (λ (v : Option TypeSort). found (λ d. unless (is_value_or_resource d) reason.WrongSort) v) (slice_get-map sort_of s.types e.index ∙ ap (option_map sort_of) (def_at o is))

    names_by : (o : Option TypeEntry) → slice_get es e.index ≡ o → member_at s e.sort e.index ≡ option_map type_member (def_found o)
    names_by o is = ap (λ v. member_at s v e.index) sort ∙ ap (option_map type_member) (def_at o is)

    pub type_answered : (o : Option TypeEntry) → slice_get es e.index ≡ o → IsAnswered types funcs s e (type_answer o)
    type_answered None is = record { broken = sym (ap least (broken_by None is)); none = members_by None (names_by None is) }
    type_answered (Some (entry.Value p)) is = record {
      fine = broken_by (Some (entry.Value p)) is;
      names = names_by (Some (entry.Value p)) is;
      there = all_found (is_entry_there (length types) (length funcs)) es e.index (entry.Value p) t.types_of.types_there is;
    }
    type_answered (Some (entry.Resource n)) is = record { fine = broken_by (Some (entry.Resource n)) is; names = names_by (Some (entry.Resource n)) is; there = refl }
    type_answered (Some (entry.Func p)) is = record {
      broken = sym (ap least (broken_by (Some (entry.Func p)) is));
      none = members_by (option_map type_member (def_found (Some (entry.Func p)))) (names_by (Some (entry.Func p)) is);
    }
    type_answered (Some (entry.Instance i)) is = record {
      broken = sym (ap least (broken_by (Some (entry.Instance i)) is));
      none = members_by (option_map type_member (def_found (Some (entry.Instance i)))) (names_by (Some (entry.Instance i)) is);
    }

  -- ---- a function

  module _ (sort : e.sort ≡ member_sort.Func) (o : Option FuncEntry) (is : option_map (func_def funcs) o ≡ slice_get s.funcs e.index) where
    func_broken_by : member_broken s e ≡ found (λ (d : FuncDef). []) (option_map (func_def funcs) o)
    func_broken_by = ap (λ v. member_of_sort_broken s v e.index) sort ∙ ap (λ (v : Option FuncDef). found (λ (d : FuncDef). []) v) (sym is)

    func_names_by : member_at s e.sort e.index ≡ option_map func_member (option_map (func_def funcs) o)
    func_names_by = ap (λ v. member_at s v e.index) sort ∙ ap (option_map func_member) (sym is)

  pub func_answered : e.sort ≡ member_sort.Func → (f : FuncEntry) → option_map (func_def funcs) (Some f) ≡ slice_get s.funcs e.index → is_func_there (length funcs) f ≡ true → IsFine types funcs s e (member.Func f)
  func_answered sort f is there = record { fine = func_broken_by sort (Some f) is; names = func_names_by sort (Some f) is; there = there }

  abbrev no_func : Option FuncDef
  no_func = option_map (func_def funcs) None

  pub no_func_answered : e.sort ≡ member_sort.Func → no_func ≡ slice_get s.funcs e.index → IsBroken s e reason.NoSuchIndex
  no_func_answered sort is = record { broken = sym (ap least (func_broken_by sort None is)); none = members_by None (func_names_by sort None is) }

-- ---- sketches

one_sketch : (types : List Ty) (funcs : List FuncTy) (name : List ℕ) (m : MemberEntry) → map named_sketch (items_of_members (record { name = name; def = member_def types funcs m } ∷ [])) ≡ (name, sketch_member funcs m) ∷ []
one_sketch types funcs name (member.Func f) = refl
one_sketch types funcs name (member.Value p) = refl
one_sketch types funcs name (member.Resource n) = refl

pub fine_sketch : (types : List Ty) (funcs : List FuncTy) (s : Spaces) (e : InlineExport) (m : MemberEntry) → IsFine types funcs s e m → export_sketches s e ≡ (e.name, sketch_member funcs m) ∷ []
fine_sketch types funcs s e m f =
    ap (λ (v : Option MemberDef). map named_sketch (items_of_members (option_to_list (option_map (λ d. record { name = e.name; def = d }) v)))) f.names
    ∙ one_sketch types funcs e.name m

pub broken_sketch : (s : Spaces) (e : InlineExport) (r : ValidReason) → IsBroken s e r → export_sketches s e ≡ []
broken_sketch s e r b = ap (map named_sketch) b.none

pub one_named : (types : List Ty) (funcs : List FuncTy) (s : Spaces) (e : InlineExport) (m : MemberEntry) → IsFine types funcs s e m → member_of_export s e ≡ record { name = e.name; def = member_def types funcs m } ∷ []
one_named types funcs s e m f = ap (λ (v : Option MemberDef). option_to_list (option_map (λ d. record { name = e.name; def = d }) v)) f.names
