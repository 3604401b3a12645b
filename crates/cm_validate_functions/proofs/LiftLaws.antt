-- Lifts, export by export.
use Rattle.std.proofs.Common.{◌≡◌, ◌||◌, ◌<◌, ℕ, ◌+◌, suc, get_or, Bool, true, false, cond, List, [], ◌∷◌, ◌++◌, length, map, Option, Some, None, IfSome, refl, sym, ap, subst, ◌∙◌, slice_get, take, arith, append_assoc, zero-add}
use Rattle.std.specs.Prelude.{is_some, option_to_list}
use Rattle.std.specs.BTreeSet.{BTreeSet, contains}
use Rattle.std.specs.List.{find}
use Rattle.std.specs.Option.{option_and_then, option_map, option_map_or, option_or}
use Rattle.std.specs.Ordering.{nat_cmp}
use Rattle.cm_lemmas.proofs.Bools.{false_not_true}
use Rattle.cm_lemmas.proofs.Lists.{long_enough, nil_right, take_one}
use Rattle.cm_lemmas.proofs.Numbers.{eq_of}
use Rattle.cm_lemmas.proofs.Options.{some_is}
use Rattle.cm_types.specs.Types.{Ty, FuncTy}
use Rattle.cm_types_arena.specs.declared.instances.Item.{Item}
use Rattle.cm_types_arena.specs.declared.instances.ItemDesc.{ItemDesc}
use Rattle.cm_types_arena.specs.declared.instances.ItemDesc.TheVariants as item
use Rattle.cm_types_arena.specs.declared.moves.Move.{Move}
use Rattle.cm_validate_model.specs.Definitions.{FuncDef, lifted, imported, MemberDef, func_member, type_member, NamedMember, NamedExport, ExportDef, exported_func, exported_instance}
use Rattle.cm_validate_model.specs.Spaces.{Spaces, func_of_member}
use Rattle.cm_validate_spaces.specs.cm_validate_entries.Entries.{item_member, item_members, member_def, members_of, named_member}
use Rattle.std.proofs.lemmas.Option.{slice_get-map, slice_get_read}
use Rattle.std.proofs.lemmas.List.{map-append}
use Rattle.std.specs.Borrow.{Bor}
use Rattle.std.specs.declared.alloc.Global.{Global}
use Rattle.std.specs.declared.rc.Rc.{Rc}
use Rattle.cm_validate_items.specs.InstanceTypes.{instance_type_of}
use Rattle.cm_validate_items.specs.Shared.{AreShared, exported_instance_in}
use Rattle.cm_validate_items.specs.declared.items.InstanceItems.{InstanceItems}
use Rattle.cm_validate_items.specs.declared.shared.Shared.{Shared}
use Rattle.cm_validate_spaces.specs.cm_validate_entries.declared.entries.InstanceEntry.{InstanceEntry}
use Rattle.cm_validate_spaces.specs.cm_validate_entries.declared.entries.InstanceEntry.TheVariants as instance
use Rattle.cm_validate_spaces.specs.cm_validate_entries.declared.entries.MemberEntry.{MemberEntry}
use Rattle.cm_validate_spaces.specs.cm_validate_entries.declared.spaces.ExportEntry.{ExportEntry}
use Rattle.cm_validate_spaces.specs.cm_validate_entries.ComponentSpaces.{export_def, exported_def}
use Rattle.cm_names.specs.Keys.{Key, first_key}
use Rattle.cm_names.specs.Listed.{listed}
use Rattle.cm_names.specs.declared.keys.Keys.{Keys}
use Rattle.cm_validate_functions.specs.Kept.{AreFirstOf, AreKept, AreUsedBy, IsOfNumber, Meets, lift_def, lifts_in, was_met}
use Rattle.cm_validate_functions.specs.Tables.{use_key}
use Rattle.cm_validate_functions.specs.declared.lift_tables.LiftTables.{LiftTables}
use Rattle.cm_validate_functions.proofs.KeyLaws.{found_by_number, found_there}
use Rattle.cm_validate_functions.specs.Lifts.{LiftDef, Purpose, lifting, post_return, allocating, lift_in, lift_of_member, lifts_of_members, lifts_of_export, lifts_from, used_by, uses}
use Rattle.cm_validate_functions.specs.Options.{is_number}
use Rattle.cm_validate_functions.specs.declared.lifts.Lift.{Lift}

-- ---- the first of lifts

pub find_joined : (t : LiftDef → Bool) (xs ys : List LiftDef) → find t (xs ++ ys) ≡ option_or (find t xs) (find t ys)
find_joined t [] ys = refl
find_joined t (x ∷ xs) ys = by (t x) (find_joined t xs ys)
  where
    by : (b : Bool) → find t (xs ++ ys) ≡ option_or (find t xs) (find t ys) → cond b (Some x) (find t (xs ++ ys)) ≡ option_or (cond b (Some x) (find t xs)) (find t ys)
    by true rest = refl
    by false rest = rest

pub first_more : (all lifts more : List LiftDef) → AreFirstOf all lifts → AreFirstOf (all ++ more) (lifts ++ more)
first_more all lifts more firsts p f =
    find_joined (uses p f) lifts more
    ∙ ap (λ (o : Option LiftDef). option_or o (find (uses p f) more)) (firsts p f)
    ∙ sym (find_joined (uses p f) all more)

either_some : (a b : Option LiftDef) → is_some (option_or a b) ≡ (is_some a || is_some b)
either_some (Some x) b = refl
either_some None b = refl

left_some : (a b : Option LiftDef) → is_some a ≡ true → is_some (option_or a b) ≡ true
left_some (Some x) b is = refl
left_some None b is = absurd (false_not_true is)

right_some : (a b : Option LiftDef) → is_some b ≡ true → is_some (option_or a b) ≡ true
right_some (Some x) b is = refl
right_some None b is = is

pub used_more : (lifts others more : List LiftDef) → AreUsedBy lifts others → AreUsedBy lifts (others ++ more)
used_more lifts others more used p f is =
    ap is_some (find_joined (uses p f) others more) ∙ left_some (find (uses p f) others) (find (uses p f) more) (used p f is)

pub used_last : (lifts others more : List LiftDef) → AreUsedBy lifts more → AreUsedBy lifts (others ++ more)
used_last lifts others more used p f is =
    ap is_some (find_joined (uses p f) others more) ∙ right_some (find (uses p f) others) (find (uses p f) more) (used p f is)

unchanged : (a b : Option LiftDef) → (is_some b ≡ true → is_some a ≡ true) → a ≡ option_or a b
unchanged (Some x) b so = refl
unchanged None None so = refl
unchanged None (Some y) so = absurd (false_not_true (so refl))

-- what others use already changes nothing
pub first_again : (all lifts more : List LiftDef) → AreFirstOf all lifts → AreUsedBy more lifts → AreFirstOf (all ++ more) lifts
first_again all lifts more firsts used p f =
    unchanged (find (uses p f) lifts) (find (uses p f) more) (used p f)
    ∙ ap (λ (o : Option LiftDef). option_or o (find (uses p f) more)) (firsts p f)
    ∙ sym (find_joined (uses p f) all more)

-- ---- the lifts of an instance, whichever export it is

found_one : (t : LiftDef → Bool) (o : Option LiftDef) → is_some (find t (option_to_list o)) ≡ option_map_or t o false
found_one t None = refl
found_one t (Some x) = by (t x)
  where
    by : (b : Bool) → is_some (cond b (Some x) None) ≡ b
    by true = refl
    by false = refl

same_use : (p : Purpose) (f m n : ℕ) (name : Option (List ℕ)) (g : FuncDef) → option_map_or (uses p f) (lift_in m name g) false ≡ option_map_or (uses p f) (lift_in n name g) false
same_use lifting f m n name (lifted k ty os) = refl
same_use post_return f m n name (lifted k ty os) = refl
same_use allocating f m n name (lifted k ty os) = refl
same_use lifting f m n name (imported i k ty) = refl
same_use post_return f m n name (imported i k ty) = refl
same_use allocating f m n name (imported i k ty) = refl

same_member_use : (p : Purpose) (f m n : ℕ) (name : List ℕ) (d : MemberDef) → option_map_or (uses p f) (option_and_then (lift_in m (Some name)) (func_of_member d)) false ≡ option_map_or (uses p f) (option_and_then (lift_in n (Some name)) (func_of_member d)) false
same_member_use p f m n name (func_member g) = same_use p f m n (Some name) g
same_member_use p f m n name (type_member t) = refl

same_member : (p : Purpose) (f m n : ℕ) (x : NamedMember) → is_some (find (uses p f) (lift_of_member m x)) ≡ is_some (find (uses p f) (lift_of_member n x))
same_member p f m n x =
    found_one (uses p f) (option_and_then (lift_in m (Some x.name)) (func_of_member x.def))
    ∙ same_member_use p f m n x.name x.def
    ∙ sym (found_one (uses p f) (option_and_then (lift_in n (Some x.name)) (func_of_member x.def)))

joined_some : (p : Purpose) (f : ℕ) (xs ys : List LiftDef) → is_some (find (uses p f) (xs ++ ys)) ≡ (is_some (find (uses p f) xs) || is_some (find (uses p f) ys))
joined_some p f xs ys = ap is_some (find_joined (uses p f) xs ys) ∙ either_some (find (uses p f) xs) (find (uses p f) ys)

same_uses : (p : Purpose) (f m n : ℕ) (ms : List NamedMember) → is_some (find (uses p f) (lifts_of_members m ms)) ≡ is_some (find (uses p f) (lifts_of_members n ms))
same_uses p f m n [] = refl
same_uses p f m n (x ∷ ms) =
    joined_some p f (lift_of_member m x) (lifts_of_members m ms)
    ∙ ap (λ (b : Bool). b || is_some (find (uses p f) (lifts_of_members m ms))) (same_member p f m n x)
    ∙ ap (λ (b : Bool). is_some (find (uses p f) (lift_of_member n x)) || b) (same_uses p f m n ms)
    ∙ sym (joined_some p f (lift_of_member n x) (lifts_of_members n ms))

pub used_whichever : (m n : ℕ) (ms : List NamedMember) (others : List LiftDef) → AreUsedBy (lifts_of_members m ms) others → AreUsedBy (lifts_of_members n ms) others
used_whichever m n ms others used p f is = used p f (same_uses p f m n ms ∙ is)

-- ---- an instance that is imported has none

pub no_lifts : (types : List Ty) (funcs : List FuncTy) (import : ℕ) (by : Move) (next : ℕ) (items : List Item) (export : ℕ) → lifts_of_members export (item_members types funcs import by next items) ≡ []
no_lifts types funcs import by next [] export = refl
no_lifts types funcs import by next (x ∷ items) export = one x.desc (no_lifts types funcs import by (next + 1) items export)
  where
    one : (d : ItemDesc) → lifts_of_members export (item_members types funcs import by (next + 1) items) ≡ []
        → lift_of_member export (record { name = x.name; def = member_def types funcs (item_member import by next d) }) ++ lifts_of_members export (item_members types funcs import by (next + 1) items) ≡ []
    one (item.Func p) rest = rest
    one (item.EqualType p) rest = rest
    one (item.EqualResource n) rest = rest
    one (item.FreshResource n) rest = rest

-- ---- exports, one more

next_lifts : (i : ℕ) (es : List NamedExport) (e : NamedExport) → lifts_from i (es ++ e ∷ []) ≡ lifts_from i es ++ lifts_of_export (i + length es) e.def
next_lifts i [] e = nil_right (lifts_of_export i e.def) ∙ ap (λ (n : ℕ). lifts_of_export n e.def) (omega arith)
next_lifts i (x ∷ es) e =
    ap (λ (ls : List LiftDef). lifts_of_export i x.def ++ ls) (next_lifts (i + 1) es e ∙ ap (λ (n : ℕ). lifts_from (i + 1) es ++ lifts_of_export n e.def) (omega arith))
    ∙ sym (append_assoc (lifts_of_export i x.def) (lifts_from (i + 1) es) (lifts_of_export (i + suc (length es)) e.def))

pub lifts_next : (es : List NamedExport) (i : ℕ) (e : NamedExport) → slice_get es i ≡ Some e → lifts_from 0 (take (i + 1) es) ≡ lifts_from 0 (take i es) ++ lifts_of_export i e.def
lifts_next es i e at =
    ap (lifts_from 0) (take_one es i e at)
    ∙ next_lifts 0 (take i es) e
    ∙ ap (λ (n : ℕ). lifts_from 0 (take i es) ++ lifts_of_export n e.def) (zero-add (length (take i es)) ∙ long_enough es i e at)

-- ---- what is kept of an export

pub kept_more : (funcs : List FuncTy) (s : Spaces) (all more : List LiftDef) (met : BTreeSet ℕ) (old new : List Lift)
    → map (lift_def funcs) new ≡ map (lift_def funcs) old ++ more → AreKept funcs s all met old → AreKept funcs s (all ++ more) met new
kept_more funcs s all more met old new is kept = record {
  firsts = subst (AreFirstOf (all ++ more)) (sym is) (first_more all (map (lift_def funcs) old) more kept.firsts);
  used = λ r ms there at. subst (AreUsedBy (lifts_of_members 0 ms)) (sym is) (used_more (lifts_of_members 0 ms) (map (lift_def funcs) old) more (kept.used r ms there at));
}

-- an instance that was met before
pub kept_again : (funcs : List FuncTy) (s : Spaces) (all : List LiftDef) (met : BTreeSet ℕ) (lifts : List Lift) (export r : ℕ) (ms : List NamedMember)
    → contains nat_cmp met r ≡ true → slice_get s.instances r ≡ Some ms → AreKept funcs s all met lifts → AreKept funcs s (all ++ lifts_of_members export ms) met lifts
kept_again funcs s all met lifts export r ms there at kept = record {
  firsts = first_again all (map (lift_def funcs) lifts) (lifts_of_members export ms) kept.firsts (used_whichever 0 export ms (map (lift_def funcs) lifts) (kept.used r ms there at));
  used = kept.used;
}

self_used : (lifts : List LiftDef) → AreUsedBy lifts lifts
self_used lifts p f is = is

either_true : (a b : Bool) (P : Type 0) → (a || b) ≡ true → (a ≡ true → P) → (b ≡ true → P) → P
either_true true b P is one two = one refl
either_true false b P is one two = two is

-- one that is met now
pub kept_new : (funcs : List FuncTy) (s : Spaces) (all : List LiftDef) (met now : BTreeSet ℕ) (old new : List Lift) (export : ℕ) (number : Option ℕ) (ms : List NamedMember)
    → Meets number met now → IsOfNumber s number (exported_instance ms)
    → map (lift_def funcs) new ≡ map (lift_def funcs) old ++ lifts_of_members export ms → AreKept funcs s all met old → AreKept funcs s (all ++ lifts_of_members export ms) now new
kept_new funcs s all met now old new export number ms meets numbered is kept =
    let more : AreKept funcs s (all ++ lifts_of_members export ms) met new = kept_more funcs s all (lifts_of_members export ms) met old new is kept in
    record {
      firsts = more.firsts;
      used = λ r ns there at. either_true (is_number r number) (contains nat_cmp met r) (AreUsedBy (lifts_of_members 0 ns) (map (lift_def funcs) new)) (sym (meets r) ∙ there)
          (λ this. subst (λ (ks : List NamedMember). AreUsedBy (lifts_of_members 0 ks) (map (lift_def funcs) new)) (members number r ns numbered this at)
          (subst (AreUsedBy (lifts_of_members 0 ms)) (sym is) (used_last (lifts_of_members 0 ms) (map (lift_def funcs) old) (lifts_of_members export ms) (used_whichever export 0 ms (lifts_of_members export ms) (self_used (lifts_of_members export ms))))))
          (λ before. more.used r ns before at);
    }
  where
    one_instance : (ks ns : List NamedMember) → exported_instance ks ≡ exported_instance ns → ks ≡ ns
    one_instance ks ns e = cc

    members : (number : Option ℕ) (r : ℕ) (ns : List NamedMember) → IsOfNumber s number (exported_instance ms) → is_number r number ≡ true → slice_get s.instances r ≡ Some ns → ms ≡ ns
    members None r ns numbered this at = absurd (false_not_true this)
    members (Some q) r ns numbered this at =
        one_instance ms numbered.0 numbered.2 ∙ some_is numbered.0 ns (sym numbered.1 ∙ ap (slice_get s.instances) (sym (eq_of r q this)) ∙ at)

-- ---- what the tables of lifts find

module _ (funcs : List FuncTy) (all : List LiftDef) (t : LiftTables) (p : Purpose) (keys : Keys) (f : ℕ)
    (firsts : AreFirstOf all (lifts_in funcs t)) (are : listed keys ≡ map (use_key p) (lifts_in funcs t)) where
  found : option_and_then (slice_get (lifts_in funcs t)) (first_key (listed keys) f []) ≡ find (uses p f) all
  found =
      ap (λ (ks : List Key). option_and_then (slice_get (lifts_in funcs t)) (first_key ks f [])) are
      ∙ ap (option_and_then (slice_get (lifts_in funcs t))) (found_by_number (used_by p) f (lifts_in funcs t))
      ∙ found_there (uses p f) (lifts_in funcs t)
      ∙ firsts p f

  pub lift_none : first_key (listed keys) f [] ≡ None → None ≡ find (uses p f) all
  lift_none e = sym (ap (option_and_then (slice_get (lifts_in funcs t))) e) ∙ found

  pub lift_some : (place : ℕ) (r : Option Lift) → first_key (listed keys) f [] ≡ Some place → r ≡ slice_get t.lifts.items place → option_map (lift_def funcs) r ≡ find (uses p f) all
  lift_some place r e got =
      ap (option_map (lift_def funcs)) got
      ∙ sym (slice_get-map (lift_def funcs) t.lifts.items place)
      ∙ sym (ap (option_and_then (slice_get (lifts_in funcs t))) e)
      ∙ found

-- ---- members, one more

members_joined : (export : ℕ) (xs : List NamedMember) (y : NamedMember) → lifts_of_members export (xs ++ y ∷ []) ≡ lifts_of_members export xs ++ lift_of_member export y
members_joined export [] y = nil_right (lift_of_member export y)
members_joined export (x ∷ xs) y =
    ap (λ (ls : List LiftDef). lift_of_member export x ++ ls) (members_joined export xs y)
    ∙ sym (append_assoc (lift_of_member export x) (lifts_of_members export xs) (lift_of_member export y))

pub members_next : (export : ℕ) (types : List Ty) (funcs : List FuncTy) (es : List (Bor (List ℕ) × MemberEntry)) (i : ℕ) (e : Bor (List ℕ) × MemberEntry) (base ls : List LiftDef)
    → slice_get es i ≡ Some e → ls ≡ base ++ lifts_of_members export (map (named_member types funcs) (take i es))
    → ls ++ lift_of_member export (named_member types funcs e) ≡ base ++ lifts_of_members export (map (named_member types funcs) (take (i + 1) es))
members_next export types funcs es i e base ls at so_far =
    ap (λ (ks : List LiftDef). ks ++ lift_of_member export (named_member types funcs e)) so_far
    ∙ append_assoc base (lifts_of_members export (map (named_member types funcs) (take i es))) (lift_of_member export (named_member types funcs e))
    ∙ ap (λ (ks : List LiftDef). base ++ ks) (sym (
    ap (lifts_of_members export) (ap (map (named_member types funcs)) (take_one es i e at) ∙ map-append (named_member types funcs) (take i es) (e ∷ []))
    ∙ members_joined export (map (named_member types funcs) (take i es)) (named_member types funcs e)))

pub imported_none : (types : List Ty) (funcs : List FuncTy) (export : ℕ) (i : InstanceEntry) (import : ℕ) (items : Rc InstanceItems Global) (by : Move)
    → i ≡ instance.Imported import items by → lifts_of_members export (members_of types funcs i) ≡ []
imported_none types funcs export i import items by is =
    ap (λ (j : InstanceEntry). lifts_of_members export (members_of types funcs j)) is
    ∙ no_lifts types funcs import by 0 (instance_type_of items.value).items.items export

-- ---- an instance that was met

pub kept_met : (funcs : List FuncTy) (s : Spaces) (all : List LiftDef) (met now : BTreeSet ℕ) (lifts : List Lift) (export : ℕ) (number : Option ℕ) (ms : List NamedMember) {b : Bool}
    → b ≡ was_met number met → b ≡ true → Meets number met now → IsOfNumber s number (exported_instance ms)
    → AreKept funcs s all met lifts → AreKept funcs s (all ++ lifts_of_members export ms) now lifts
kept_met funcs s all met now lifts export None ms was true_was meets numbered kept = absurd (false_not_true (sym was ∙ true_was))
kept_met funcs s all met now lifts export (Some q) ms was true_was meets numbered kept =
    let there : contains nat_cmp met q ≡ true = sym was ∙ true_was in
    let one : ms ≡ numbered.0 = one_instance ms numbered.0 numbered.2 in
    let again = kept_again funcs s all met lifts export q ms there (numbered.1 ∙ ap (λ (ks : List NamedMember). Some ks) (sym one)) kept in
    record {
      firsts = again.firsts;
      used = λ r ns in_now at. either_true (is_number r (Some q)) (contains nat_cmp met r) (AreUsedBy (lifts_of_members 0 ns) (map (lift_def funcs) lifts)) (sym (meets r) ∙ in_now)
          (λ this. kept.used r ns (ap (contains nat_cmp met) (eq_of r q this) ∙ there) at)
          (λ before. kept.used r ns before at);
    }
  where
    one_instance : (ks ns : List NamedMember) → exported_instance ks ≡ exported_instance ns → ks ≡ ns
    one_instance ks ns e = cc

-- ---- exports at their places

pub export_at : (types : List Ty) (funcs : List FuncTy) (s : Spaces) (xs : List ExportEntry) (k : ℕ) (x : ExportEntry)
    → k < length xs → x ≡ get_or xs k x → s.exports ≡ map (export_def types funcs) xs → slice_get s.exports k ≡ Some (export_def types funcs x)
export_at types funcs s xs k x lt is are =
    ap (λ (es : List NamedExport). slice_get es k) are
    ∙ slice_get-map (export_def types funcs) xs k
    ∙ ap (option_map (export_def types funcs)) (slice_get_read xs (length xs) k x refl lt is)

if_some : (o : Option ℕ) (P : ℕ → Type 0) → ((r : ℕ) → o ≡ Some r → P r) → IfSome o P
if_some (Some r) P f = f r refl
if_some None P f = tt

pub numbered_at : (types : List Ty) (funcs : List FuncTy) (s : Spaces) (w : Shared) (xs : List ExportEntry) (k : ℕ) (x : ExportEntry) (number : Option ℕ)
    → k < length xs → x ≡ get_or xs k x → number ≡ exported_instance_in w k → AreShared s w → s.exports ≡ map (export_def types funcs) xs → IsOfNumber s number (exported_def types funcs x.def)
numbered_at types funcs s w xs k x number lt is_x is_number shared are =
    let P : ℕ → Type 0 = λ r. (ms : List NamedMember) × (slice_get s.instances r ≡ Some ms) × (exported_def types funcs x.def ≡ exported_instance ms) in
    let there : slice_get s.exports k ≡ Some (export_def types funcs x) = export_at types funcs s xs k x lt is_x are in
    subst (λ (o : Option ℕ). IfSome o P) (sym is_number) (if_some (exported_instance_in w k) P (λ r e.
    let h = shared.exports k r e in
    (h.0, h.1, some_is (exported_def types funcs x.def) (exported_instance h.0) (sym (ap (option_map (λ (d : NamedExport). d.def)) there) ∙ h.2))))
