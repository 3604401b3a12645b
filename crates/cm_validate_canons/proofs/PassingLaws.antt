-- What types pass.
use Rattle.std.proofs.Common.{◌≡◌, ◌+◌, ◌-◌, ◌<◌, ◌≤◌, ℕ, Bool, true, false, ◌||◌, List, [], ◌∷◌, map, length, drop, slice_index_or, Option, Some, None, nat_le, not, refl, ap, sym, ◌∙◌, add-one, arith, drop-cons}
use Rattle.std.proofs.lemmas.Bool.Decides.{nat_tests}
use Rattle.std.proofs.lemmas.List.{drop_all, length-append}
use Rattle.std.proofs.Math.ListN.{get_or-map}
use Rattle.std.specs.Option.{option_map, option_map_or}
use Rattle.cm_types.specs.declared.limits.TheConstants.{MAX_FLAT_PARAMS, MAX_FLAT_RESULTS}
use Rattle.cm_types.specs.Holds.{holds, fields_hold, cases_hold, is_list, is_string}
use Rattle.cm_types.specs.Types.{Ty, FuncTy, tuple_type, Fields, Cases, bool, signed, unsigned, char, string, list, fixed_list, fields, cases, flags, own, borrow, no_fields, field, no_cases, plain, carrying}
use Rattle.cm_layout.specs.Flattening.{copies, flat_of, flat_of_fields, flat_of_cases, flat_of_payload}
use Rattle.cm_layout.specs.Shapes.{LayoutTy, layout_at}
use Rattle.cm_layout.specs.Layouts.{layout_of}
use Rattle.cm_layout.specs.declared.heads.Head.{Head}
use Rattle.cm_layout.specs.declared.layouts.Layout.{Layout, out-Layout}
use Rattle.cm_types_arena.specs.Summaries.{summary_of}
use Rattle.cm_types_arena.specs.TypeDefs.{params_type}
use Rattle.cm_types_arena.specs.declared.summaries.Summary.{Summary}
use Rattle.cm_layout_placed.specs.Placed.{at_place}
use Rattle.cm_validate_canons.specs.declared.passing.Passed.{Passed}
use Rattle.cm_types_arena.specs.Replaced.{Standing, replaced, replaced_fields, replaced_cases, replaced_func}
use Rattle.cm_types_arena.specs.Arena.{field_types}
use Rattle.cm_types_arena.specs.TypeDefs.{type_at}
use Rattle.cm_validate_model.specs.Options.{is_pointer}
use Rattle.cm_validate_canons.specs.Passing.{params_passed, result_passed, widths_at}
use Rattle.cm_layout.proofs.LayoutLemmas.{seen_head}

-- ---- pointers

or_swap : (a b c d : Bool) → ((a || b) || (c || d)) ≡ ((a || c) || (b || d))
or_swap true b c d = refl
or_swap false b true d = or_true b
  where
    or_true : (b : Bool) → (b || true) ≡ true
    or_true true = refl
    or_true false = refl
or_swap false b false d = refl

or_true : (b : Bool) → (b || true) ≡ true
or_true true = refl
or_true false = refl

mutual
  pub pointers_held : (t : Ty) → holds is_pointer t ≡ (holds is_string t || holds is_list t)
  pointers_held bool = refl
  pointers_held (signed w) = refl
  pointers_held (unsigned w) = refl
  pointers_held char = refl
  pointers_held string = refl
  pointers_held (list t) = sym (or_true (holds is_string t))
  pointers_held (fixed_list t n) = pointers_held t
  pointers_held (fields k fs) = fields_pointers fs
  pointers_held (cases k cs) = cases_pointers cs
  pointers_held (flags ls) = refl
  pointers_held (own r) = refl
  pointers_held (borrow r) = refl

  fields_pointers : (fs : Fields) → fields_hold is_pointer fs ≡ (fields_hold is_string fs || fields_hold is_list fs)
  fields_pointers no_fields = refl
  fields_pointers (field l t fs) = rw (pointers_held t, fields_pointers fs) (or_swap (holds is_string t) (holds is_list t) (fields_hold is_string fs) (fields_hold is_list fs))

  cases_pointers : (cs : Cases) → cases_hold is_pointer cs ≡ (cases_hold is_string cs || cases_hold is_list cs)
  cases_pointers no_cases = refl
  cases_pointers (plain l cs) = cases_pointers cs
  cases_pointers (carrying l t cs) = rw (pointers_held t, cases_pointers cs) (or_swap (holds is_string t) (holds is_list t) (cases_hold is_string cs) (cases_hold is_list cs))

-- ---- what stays where resources are replaced

module _ (s : Standing) where
  mutual
    pub kinds_stay : (t : Ty) → flat_of (replaced s t) ≡ flat_of t
    kinds_stay bool = refl
    kinds_stay (signed w) = refl
    kinds_stay (unsigned w) = refl
    kinds_stay char = refl
    kinds_stay string = refl
    kinds_stay (list t) = refl
    kinds_stay (fixed_list t n) = ap (copies n) (kinds_stay t)
    kinds_stay (fields k fs) = fields_kinds_stay fs
    kinds_stay (cases k cs) = rw (cases_kinds_stay cs) refl
    kinds_stay (flags ls) = refl
    kinds_stay (own r) = refl
    kinds_stay (borrow r) = refl

    pub fields_kinds_stay : (fs : Fields) → flat_of_fields (replaced_fields s fs) ≡ flat_of_fields fs
    fields_kinds_stay no_fields = refl
    fields_kinds_stay (field l t fs) = rw (kinds_stay t, fields_kinds_stay fs) refl

    cases_kinds_stay : (cs : Cases) → flat_of_cases (replaced_cases s cs) ≡ flat_of_cases cs
    cases_kinds_stay no_cases = refl
    cases_kinds_stay (plain l cs) = cases_kinds_stay cs
    cases_kinds_stay (carrying l t cs) = rw (kinds_stay t, cases_kinds_stay cs) refl

  payload_stays : (o : Option Ty) → flat_of_payload (option_map (replaced s) o) ≡ flat_of_payload o
  payload_stays None = refl
  payload_stays (Some t) = kinds_stay t

  payload_holds : (test : Ty → Bool) → ((t : Ty) → holds test (replaced s t) ≡ holds test t) → (o : Option Ty)
      → option_map_or (holds test) (option_map (replaced s) o) false ≡ option_map_or (holds test) o false
  payload_holds test same None = refl
  payload_holds test same (Some t) = same t

  module _ (strings : (u : Standing) (t : Ty) → holds is_string (replaced u t) ≡ holds is_string t) (lists : (u : Standing) (t : Ty) → holds is_list (replaced u t) ≡ holds is_list t) where
    pointers_stay : (t : Ty) → holds is_pointer (replaced s t) ≡ holds is_pointer t
    pointers_stay t = pointers_held (replaced s t) ∙ ap (λ b. b || holds is_list (replaced s t)) (strings s t) ∙ ap (λ b. holds is_string t || b) (lists s t) ∙ sym (pointers_held t)

    pub params_stay : (f : FuncTy) → params_passed (replaced_func s f) ≡ params_passed f
    params_stay f =
        let all = fields tuple_type f.params in
        let a : fields_hold is_string (replaced_fields s f.params) ≡ fields_hold is_string f.params = strings s all in
        let b : fields_hold is_pointer (replaced_fields s f.params) ≡ fields_hold is_pointer f.params = pointers_stay all in
        rw (a, b, fields_kinds_stay f.params) refl

    pub result_stays : (f : FuncTy) → result_passed (replaced_func s f) ≡ result_passed f
    result_stays f = rw (payload_holds is_string (strings s) f.result, payload_holds is_pointer pointers_stay f.result, payload_stays f.result) refl

-- ---- widths

-- how many core values pass these types, one after another
abbrev pub width_of : List Ty → ℕ
width_of [] = 0
width_of (t ∷ ts) = length (flat_of t) + width_of ts

pub fields_width : (fs : Fields) → length (flat_of_fields fs) ≡ width_of (field_types fs)
fields_width no_fields = refl
fields_width (field l t fs) = length-append (flat_of t) (flat_of_fields fs) ∙ ap (λ n. length (flat_of t) + n) (fields_width fs)

pub placed_width : (types : List Ty) (ps : List ℕ) → widths_at (map layout_at types) ps ≡ width_of (map (type_at types) ps)
placed_width types [] = refl
placed_width types (p ∷ ps) = rw (get_or-map layout_at types p bool, placed_width types ps) refl

-- ---- widths one after another

next_width : (ls : List LayoutTy) (ps : List ℕ) (i : ℕ) → i < length ps → widths_at ls (drop i ps) ≡ (at_place ls (slice_index_or ps i 0)).head.width + widths_at ls (drop (i + 1) ps)
next_width ls ps i lt = rw (add-one, drop-cons ps i 0 lt) refl

less : (w n room : ℕ) → (w ≤ room → ⊥) → nat_le (w + n) room ≡ false
less w n room wide = grind (arith, nat_tests)

same_room : (w n room left : ℕ) → w ≤ room → left ≡ room - w → nat_le n left ≡ nat_le (w + n) room
same_room w n room left le is = grind (arith, nat_tests)

none_fits : (room : ℕ) → nat_le 0 room ≡ true
none_fits room = grind (arith, nat_tests)

pub seen_width : (l : Layout) (t : LayoutTy) → layout_of l ≡ t → (out-Layout l).head.width ≡ t.head.width
seen_width l t e = sym (ap (λ (h : Head). h.width) (seen_head l)) ∙ ap (λ (x : LayoutTy). x.head.width) e

module _ (ls : List LayoutTy) (ps : List ℕ) (i room w : ℕ) (all : Bool) where
  pub too_many : i < length ps → w ≡ (at_place ls (slice_index_or ps i 0)).head.width → (w ≤ room → ⊥) → nat_le (widths_at ls (drop i ps)) room ≡ all → true ≡ not all
  too_many lt is wide before =
      ap not (sym (less w (widths_at ls (drop (i + 1) ps)) room wide) ∙ ap (λ n. nat_le (n + widths_at ls (drop (i + 1) ps)) room) is ∙ ap (λ n. nat_le n room) (sym (next_width ls ps i lt)) ∙ before)

  pub goes_on : (left : ℕ) → i < length ps → w ≡ (at_place ls (slice_index_or ps i 0)).head.width → w ≤ room → left ≡ room - w → nat_le (widths_at ls (drop i ps)) room ≡ all
      → nat_le (widths_at ls (drop (i + 1) ps)) left ≡ all
  goes_on left lt is le e before =
      same_room w (widths_at ls (drop (i + 1) ps)) room left le e ∙ ap (λ n. nat_le (n + widths_at ls (drop (i + 1) ps)) room) is ∙ ap (λ n. nat_le n room) (sym (next_width ls ps i lt)) ∙ before

  pub ended : length ps ≤ i → nat_le (widths_at ls (drop i ps)) room ≡ all → false ≡ not all
  ended le before = ap not (sym (none_fits room) ∙ sym (ap (λ qs. nat_le (widths_at ls qs) room) (drop_all i ps le)) ∙ before)

-- ---- of a function at a place

pub params_of : (types : List Ty) (f : FuncTy) (ps : List ℕ) (most : ℕ) → field_types f.params ≡ map (type_at types) ps
    → nat_le (widths_at (map layout_at types) ps) most ≡ nat_le (length (flat_of_fields f.params)) most
params_of types f ps most e = ap (λ n. nat_le n most) (placed_width types ps ∙ ap width_of (sym e) ∙ sym (fields_width f.params))

-- what is known of a type tells whether it holds a pointer
pub string_held : (x : Summary) (t : Ty) → x ≡ summary_of t → x.holds_string ≡ true → x.holds_string ≡ holds is_pointer t
string_held x t e held =
    let a : x.holds_string ≡ holds is_string t = ap (λ (y : Summary). y.holds_string) e in
    held ∙ sym (pointers_held t ∙ ap (λ b. b || holds is_list t) (sym a ∙ held))

pub list_held : (x : Summary) (t : Ty) → x ≡ summary_of t → x.holds_string ≡ false → x.holds_list ≡ holds is_pointer t
list_held x t e free =
    let a : x.holds_string ≡ holds is_string t = ap (λ (y : Summary). y.holds_string) e in
    ap (λ (y : Summary). y.holds_list) e ∙ sym (pointers_held t ∙ ap (λ b. b || holds is_list t) (sym a ∙ free))

abbrev make : Bool → Bool → Bool → Passed
make a b c = record { holds_string = a; holds_pointer = b; is_spilled = c }

pub all_params : (x : Summary) (p l : Bool) (f : FuncTy) → x ≡ summary_of (params_type f) → p ≡ holds is_pointer (params_type f) → l ≡ not (nat_le (length (flat_of_fields f.params)) MAX_FLAT_PARAMS)
    → make x.holds_string p l ≡ params_passed f
all_params x p l f e g h = ap (λ (y : Summary). make y.holds_string p l) e ∙ ap (λ q. make (fields_hold is_string f.params) q l) g ∙ ap (make (fields_hold is_string f.params) (fields_hold is_pointer f.params)) h

pub some_result : (x : Summary) (p l : Bool) (f : FuncTy) (t : Ty) → f.result ≡ Some t → x ≡ summary_of t → p ≡ holds is_pointer t → l ≡ not (nat_le (length (flat_of t)) MAX_FLAT_RESULTS)
    → make x.holds_string p l ≡ result_passed f
some_result x p l f t is e g h =
    ap (λ (y : Summary). make y.holds_string p l) e ∙ ap (λ q. make (holds is_string t) q l) g ∙ ap (make (holds is_string t) (holds is_pointer t)) h
    ∙ sym (ap (λ (o : Option Ty). make (option_map_or (holds is_string) o false) (option_map_or (holds is_pointer) o false) (not (nat_le (length (flat_of_payload o)) MAX_FLAT_RESULTS))) is)

pub no_result : (f : FuncTy) → f.result ≡ None → make false false false ≡ result_passed f
no_result f is =
    ap (make false false) (ap not (sym (none_fits MAX_FLAT_RESULTS)))
    ∙ sym (ap (λ (o : Option Ty). make (option_map_or (holds is_string) o false) (option_map_or (holds is_pointer) o false) (not (nat_le (length (flat_of_payload o)) MAX_FLAT_RESULTS))) is)
