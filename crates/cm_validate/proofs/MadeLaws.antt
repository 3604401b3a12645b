-- What was made of instances, by their numbers.
use Rattle.std.proofs.Common.{◌≡◌, ℕ, Bool, cond, List, inl, inr, length, Option, Some, None, IfSome, Result, Ok, Err, IfOk, get_or, ◌<◌, refl, sym, ap, ◌∙◌, slice_get, subst, nat_cmp}
use Rattle.std.specs.Prelude.{MatchResult}
use Rattle.std.specs.BTreeMap.{BTreeMap, get}
use Rattle.std.specs.Option.{option_map}
use Rattle.std.specs.Ordering.{is_eq}
use Rattle.std.specs.declared.alloc.Global.{Global}
use Rattle.std.specs.declared.rc.Rc.{Rc}
use Rattle.std.proofs.lemmas.Bool.{cases_Bool}
use Rattle.std.proofs.lemmas.Map.Lookups.{exact_unsigned}
use Rattle.std.proofs.lemmas.Option.{slice_get-map, slice_get_read}
use Rattle.cm_types.specs.Types.{Ty, FuncTy}
use Rattle.cm_types_arena.specs.declared.instances.InstanceType.{InstanceType}
use Rattle.cm_validate_model.specs.Definitions.{NamedExport, NamedMember, exported_instance}
use Rattle.cm_validate_model.specs.Spaces.{Spaces}
use Rattle.cm_validate_items.specs.Shared.{AreShared, exported_instance_in}
use Rattle.cm_validate_items.specs.declared.shared.Shared.{Shared}
use Rattle.cm_validate_entries.specs.ComponentSpaces.{export_def, exported_def, is_exported_there}
use Rattle.cm_validate_entries.specs.Entries.{members_of}
use Rattle.cm_validate_entries.specs.declared.entries.InstanceEntry.{InstanceEntry}
use Rattle.cm_validate_entries.specs.declared.spaces.ExportEntry.{ExportEntry}
use Rattle.cm_validate_entries.specs.declared.spaces.ExportedEntry.TheVariants as export
use Rattle.cm_validate.specs.Made.{AreExportsOf, AreMade, IsInstanceNumber, IsTypeOf}
use Rattle.cm_validate.specs.declared.made.Made.{Made}
use Rattle.cm_lemmas.proofs.Orders.{is_equal}
use Rattle.cm_lemmas.proofs.Options.{some_is}
use Rattle.cm_lemmas.proofs.Lists.{all_found}

members_are_one : (ms ns : List NamedMember) → exported_instance ms ≡ exported_instance ns → ms ≡ ns
members_are_one ms ns e = cc

-- what holds of the value of a call that went well
pub if_ok : {V E : Type 0} (r : Result V E) (P Q : V → Type 0) (N : E → Type 0) → ((v : V) → P v → Q v) → MatchResult r P N → IfOk r Q
if_ok (Ok v) P Q N f h = f v h
if_ok (Err e) P Q N f h = tt

-- ---- an instance by its number

pub made_already : (types : List Ty) (funcs : List FuncTy) (s : Spaces) (m : Made) (number : ℕ) (t : Rc InstanceType Global) (i : InstanceEntry)
    → AreMade types funcs s m → get nat_cmp m.types number ≡ Some t → IsInstanceNumber types funcs s (Some number) (export.Instance i) → IsTypeOf types funcs (members_of types funcs i) t.value
made_already types funcs s m number t i made found numbered =
    let e = numbered.is in
    subst (λ (ms : List NamedMember). IsTypeOf types funcs ms t.value) (sym (members_are_one (members_of types funcs i) e.0 e.2)) (made.each number t e.0 found e.1)

pub one_more_made : (types : List Ty) (funcs : List FuncTy) (s : Spaces) (m : Made) (n : BTreeMap ℕ (Rc InstanceType Global)) (number : ℕ) (t : Rc InstanceType Global) (i : InstanceEntry)
    → ((q : ℕ) → get nat_cmp n q ≡ cond (is_eq (nat_cmp number q)) (Some t) (get nat_cmp m.types q))
    → AreMade types funcs s m → IsInstanceNumber types funcs s (Some number) (export.Instance i) → IsTypeOf types funcs (members_of types funcs i) t.value → AreMade types funcs s (record { types = n })
one_more_made types funcs s m n number t i at made numbered here = record {
  each = λ q y ms found there. elim (cases_Bool (is_eq (nat_cmp number q))) [
    | inl h ↦
        let value : t ≡ y = some_is t y (sym (at q ∙ ap (λ (b : Bool). cond b (Some t) (get nat_cmp m.types q)) h) ∙ found) in
        let same : number ≡ q = exact_unsigned number q (is_equal (nat_cmp number q) h) in
        let e = numbered.is in
        let members : members_of types funcs i ≡ ms = members_are_one (members_of types funcs i) e.0 e.2 ∙ some_is e.0 ms (sym e.1 ∙ ap (slice_get s.instances) same ∙ there) in
        subst (λ (ns : List NamedMember). IsTypeOf types funcs ns y.value) members (subst (λ (z : Rc InstanceType Global). IsTypeOf types funcs (members_of types funcs i) z.value) value here)
    | inr h ↦ made.each q y ms (sym (at q ∙ ap (λ (b : Bool). cond b (Some t) (get nat_cmp m.types q)) h) ∙ found) there
  ];
}

-- ---- the number of an export

if_some : (o : Option ℕ) (P : ℕ → Type 0) → ((r : ℕ) → o ≡ Some r → P r) → IfSome o P
if_some (Some r) P f = f r refl
if_some None P f = tt

pub numbered_at : (types : List Ty) (funcs : List FuncTy) (s : Spaces) (w : Shared) (xs : List ExportEntry) (k : ℕ) (x : ExportEntry) (number : Option ℕ)
    → k < length xs → x ≡ get_or xs k x → number ≡ exported_instance_in w k → AreShared s w → AreExportsOf types funcs s xs → IsInstanceNumber types funcs s number x.def
numbered_at types funcs s w xs k x number lt is_x is_number shared exports =
    let P : ℕ → Type 0 = λ r. (ms : List NamedMember) × (slice_get s.instances r ≡ Some ms) × (exported_def types funcs x.def ≡ exported_instance ms) in
    let at : slice_get xs k ≡ Some x = slice_get_read xs (length xs) k x refl lt is_x in
    let there : slice_get s.exports k ≡ Some (export_def types funcs x) =
    ap (λ (es : List NamedExport). slice_get es k) exports.are ∙ slice_get-map (export_def types funcs) xs k ∙ ap (option_map (export_def types funcs)) at in
    record {
      is = subst (λ (o : Option ℕ). IfSome o P) (sym is_number) (if_some (exported_instance_in w k) P (λ r e.
          let h = shared.exports k r e in
          (h.0, h.1, some_is (exported_def types funcs x.def) (exported_instance h.0) (sym (ap (option_map (λ (d : NamedExport). d.def)) there) ∙ h.2))));
      there = all_found (λ (y : ExportEntry). is_exported_there (length types) (length funcs) y.def) xs k x exports.there at;
    }
