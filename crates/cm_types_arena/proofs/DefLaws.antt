-- What the type of a definition is, by what its parts are.
use Rattle.std.proofs.Common.{◌≡◌, ℕ, suc, ◌+◌, Bool, true, false, ◌&&◌, ◌||◌, not, List, [], ◌∷◌, ◌++◌, length, map, max, nat_lt, Option, Some, None, refl, sym, ap, ◌∙◌, arith, codes}
use Rattle.std.specs.List.{AllByRecursion}
use Rattle.std.specs.Option.{option_map}
use Rattle.std.proofs.lemmas.Bool.{lt-ltb, and_from}
use Rattle.cm_types.specs.Types.{Ty, Fields, Cases, FieldsKind, CasesKind, list, fixed_list, fields, cases, no_fields, field, no_cases, plain, carrying, record_type, tuple_type, variant_type, enum_type, option_type, result_type}
use Rattle.cm_types.specs.TypeTrees.{TypedLabel, CaseOf, fields_from, parts_from, cases_from, plain_from, case_before}
use Rattle.cm_types.specs.Limits.{nodes_of_fields, nodes_of_cases, depth_of_fields, depth_of_cases}
use Rattle.cm_types.specs.Holds.{fields_hold, cases_hold, is_string, is_list, is_borrow, is_handle}
use Rattle.cm_types.specs.Spellable.{is_spellable, are_spellable, are_spellable_payloads, has_no_fields, has_no_cases}
use Rattle.cm_types_arena.specs.declared.primitives.Primitive.TheVariants as primitive
use Rattle.cm_types_arena.specs.declared.summaries.Summary.{Summary}
use Rattle.cm_types_arena.specs.declared.type_defs.TypeDef.{TypeDef}
use Rattle.cm_types_arena.specs.declared.type_defs.TypeDef.TheVariants as def
use Rattle.cm_types_arena.specs.declared.type_defs.FieldDef.{FieldDef}
use Rattle.cm_types_arena.specs.declared.type_defs.CaseDef.{CaseDef}
use Rattle.cm_types_arena.specs.Summaries.{summary_of, no_summary, beside, summary_of_all, above, def_summary}
use Rattle.cm_types_arena.specs.TypeDefs.{type_at, field_def_type, case_def_type, def_type, option_list, payload_places, def_parts, is_spellable_def}
use Rattle.cm_types_arena.specs.Arena.{field_types, payload_types, parts_in}
use Rattle.cm_lemmas.proofs.Bools.{or_false}

-- ---- parts

module _ (types : List Ty) where
  pub record_parts : (fs : List FieldDef) → field_types (fields_from (map (field_def_type types) fs)) ≡ map (type_at types) (map (λ f. f.ty) fs)
  record_parts [] = refl
  record_parts (f ∷ fs) = ap (λ ts. type_at types f.ty ∷ ts) (record_parts fs)

  tuple_parts : (ps : List ℕ) → field_types (parts_from (map (type_at types) ps)) ≡ map (type_at types) ps
  tuple_parts [] = refl
  tuple_parts (p ∷ ps) = ap (λ ts. type_at types p ∷ ts) (tuple_parts ps)

  before_parts : (l : List ℕ) (o : Option ℕ) (cs : Cases) (ps : List ℕ) → payload_types cs ≡ map (type_at types) ps
      → payload_types (case_before l (option_map (type_at types) o) cs) ≡ map (type_at types) (option_list o ++ ps)
  before_parts l None cs ps e = e
  before_parts l (Some p) cs ps e = ap (λ ts. type_at types p ∷ ts) e

  variant_parts : (cs : List CaseDef) → payload_types (cases_from (map (case_def_type types) cs)) ≡ map (type_at types) (payload_places cs)
  variant_parts [] = refl
  variant_parts (c ∷ cs) = before_parts c.label c.payload (cases_from (map (case_def_type types) cs)) (payload_places cs) (variant_parts cs)

  enum_parts : (ls : List (List ℕ)) → payload_types (plain_from ls) ≡ []
  enum_parts [] = refl
  enum_parts (l ∷ ls) = enum_parts ls

  result_parts : (ok error : Option ℕ)
      → payload_types (case_before (codes "ok") (option_map (type_at types) ok) (case_before (codes "error") (option_map (type_at types) error) no_cases))
      ≡ map (type_at types) (option_list ok ++ option_list error)
  result_parts ok None = before_parts (codes "ok") ok (case_before (codes "error") None no_cases) [] refl
  result_parts ok (Some p) = before_parts (codes "ok") ok (case_before (codes "error") (Some (type_at types p)) no_cases) (p ∷ []) refl

  pub def_parts_are : (d : TypeDef) → parts_in (def_type types d) ≡ map (type_at types) (def_parts d)
  def_parts_are (def.Primitive primitive.Bool) = refl
  def_parts_are (def.Primitive primitive.S8) = refl
  def_parts_are (def.Primitive primitive.U8) = refl
  def_parts_are (def.Primitive primitive.S16) = refl
  def_parts_are (def.Primitive primitive.U16) = refl
  def_parts_are (def.Primitive primitive.S32) = refl
  def_parts_are (def.Primitive primitive.U32) = refl
  def_parts_are (def.Primitive primitive.S64) = refl
  def_parts_are (def.Primitive primitive.U64) = refl
  def_parts_are (def.Primitive primitive.Char) = refl
  def_parts_are (def.Primitive primitive.String) = refl
  def_parts_are (def.List p) = refl
  def_parts_are (def.FixedList p n) = refl
  def_parts_are (def.Record fs) = record_parts fs.items
  def_parts_are (def.Tuple ps) = tuple_parts ps.items
  def_parts_are (def.Variant cs) = variant_parts cs.items
  def_parts_are (def.Enum ls) = enum_parts ls.items
  def_parts_are (def.Flags ls) = refl
  def_parts_are (def.Option p) = refl
  def_parts_are (def.Result ok error) = result_parts ok error
  def_parts_are (def.Own r) = refl
  def_parts_are (def.Borrow r) = refl

-- ---- summaries

-- of fields and of cases together
abbrev fields_summary : Fields → Summary
fields_summary fs =
    record {
      nodes = nodes_of_fields fs;
      depth = depth_of_fields fs;
      holds_string = fields_hold is_string fs;
      holds_list = fields_hold is_list fs;
      holds_borrow = fields_hold is_borrow fs;
      holds_handle = fields_hold is_handle fs;
    }

abbrev cases_summary : Cases → Summary
cases_summary cs =
    record {
      nodes = nodes_of_cases cs;
      depth = depth_of_cases cs;
      holds_string = cases_hold is_string cs;
      holds_list = cases_hold is_list cs;
      holds_borrow = cases_hold is_borrow cs;
      holds_handle = cases_hold is_handle cs;
    }

fields_all : (fs : Fields) → fields_summary fs ≡ summary_of_all (field_types fs)
fields_all no_fields = refl
fields_all (field l t fs) = ap (beside (summary_of t)) (fields_all fs)

cases_all : (cs : Cases) → cases_summary cs ≡ summary_of_all (payload_types cs)
cases_all no_cases = refl
cases_all (plain l cs) = cases_all cs
cases_all (carrying l t cs) = ap (beside (summary_of t)) (cases_all cs)

abbrev with_nodes : Summary → ℕ → Summary
with_nodes s n = record s { nodes = n }

fields_above : (k : FieldsKind) (fs : Fields) → summary_of (fields k fs) ≡ above 1 (summary_of_all (field_types fs))
fields_above k fs = ap (with_nodes (summary_of (fields k fs))) (omega arith) ∙ ap (above 1) (fields_all fs)

cases_above : (k : CasesKind) (cs : Cases) → summary_of (cases k cs) ≡ above 1 (summary_of_all (payload_types cs))
cases_above k cs = ap (with_nodes (summary_of (cases k cs))) (omega arith) ∙ ap (above 1) (cases_all cs)

abbrev make_summary : ℕ → ℕ → Bool → Bool → Bool → Bool → Summary
make_summary n d a b c e = record { nodes = n; depth = d; holds_string = a; holds_list = b; holds_borrow = c; holds_handle = e }

alone : (s : Summary) → beside s no_summary ≡ s
alone s =
    let n : s.nodes + 0 ≡ s.nodes = omega arith in
    let d : max s.depth 0 ≡ s.depth = omega arith in
    let a = or_false s.holds_string in
    let b = or_false s.holds_list in
    let c = or_false s.holds_borrow in
    let e = or_false s.holds_handle in
    let whole : make_summary (s.nodes + 0) (max s.depth 0) (s.holds_string || false) (s.holds_list || false) (s.holds_borrow || false) (s.holds_handle || false)
    ≡ make_summary s.nodes s.depth s.holds_string s.holds_list s.holds_borrow s.holds_handle = cc in
    whole

listed : (t : Ty) → summary_of (list t) ≡ record (above 1 (beside (summary_of t) no_summary)) { holds_list = true }
listed t =
    ap (with_nodes (summary_of (list t))) (omega arith)
    ∙ ap (λ s. record (above 1 s) { holds_list = true }) (sym (alone (summary_of t)))

repeated : (t : Ty) (n : ℕ) → summary_of (fixed_list t n) ≡ above (max n 1) (beside (summary_of t) no_summary)
repeated t n = ap (above (max n 1)) (sym (alone (summary_of t)))

module _ (types : List Ty) where
  pub def_summary_is : (d : TypeDef) → summary_of (def_type types d) ≡ def_summary d (summary_of_all (map (type_at types) (def_parts d)))
  def_summary_is (def.Primitive primitive.Bool) = refl
  def_summary_is (def.Primitive primitive.S8) = refl
  def_summary_is (def.Primitive primitive.U8) = refl
  def_summary_is (def.Primitive primitive.S16) = refl
  def_summary_is (def.Primitive primitive.U16) = refl
  def_summary_is (def.Primitive primitive.S32) = refl
  def_summary_is (def.Primitive primitive.U32) = refl
  def_summary_is (def.Primitive primitive.S64) = refl
  def_summary_is (def.Primitive primitive.U64) = refl
  def_summary_is (def.Primitive primitive.Char) = refl
  def_summary_is (def.Primitive primitive.String) = refl
  def_summary_is (def.List p) = listed (type_at types p)
  def_summary_is (def.FixedList p n) = repeated (type_at types p) n
  def_summary_is (def.Record fs) =
      fields_above record_type (fields_from (map (field_def_type types) fs.items))
      ∙ ap (λ ts. above 1 (summary_of_all ts)) (def_parts_are types (def.Record fs))
  def_summary_is (def.Tuple ps) =
      fields_above tuple_type (parts_from (map (type_at types) ps.items))
      ∙ ap (λ ts. above 1 (summary_of_all ts)) (def_parts_are types (def.Tuple ps))
  def_summary_is (def.Variant cs) =
      cases_above variant_type (cases_from (map (case_def_type types) cs.items))
      ∙ ap (λ ts. above 1 (summary_of_all ts)) (def_parts_are types (def.Variant cs))
  def_summary_is (def.Enum ls) =
      cases_above enum_type (plain_from ls.items)
      ∙ ap (λ ts. above 1 (summary_of_all ts)) (def_parts_are types (def.Enum ls))
  def_summary_is (def.Flags ls) = refl
  def_summary_is (def.Option p) =
      cases_above option_type (plain (codes "none") (carrying (codes "some") (type_at types p) no_cases))
      ∙ ap (λ ts. above 1 (summary_of_all ts)) (def_parts_are types (def.Option p))
  def_summary_is (def.Result ok error) =
      cases_above result_type (case_before (codes "ok") (option_map (type_at types) ok) (case_before (codes "error") (option_map (type_at types) error) no_cases))
      ∙ ap (λ ts. above 1 (summary_of_all ts)) (def_parts_are types (def.Result ok error))
  def_summary_is (def.Own r) = refl
  def_summary_is (def.Borrow r) = refl

-- ---- what a file can spell

abbrev pub AreSpellable : List Ty → Type 0
AreSpellable ts = AllByRecursion (λ t. is_spellable t ≡ true) ts

pub fields_spellable : (fs : Fields) → AreSpellable (field_types fs) → are_spellable fs ≡ true
fields_spellable no_fields h = refl
fields_spellable (field l t fs) h = and_from (is_spellable t) (are_spellable fs) h.0 (fields_spellable fs h.1)

cases_spellable : (cs : Cases) → AreSpellable (payload_types cs) → are_spellable_payloads cs ≡ true
cases_spellable no_cases h = refl
cases_spellable (plain l cs) h = cases_spellable cs h
cases_spellable (carrying l t cs) h = and_from (is_spellable t) (are_spellable_payloads cs) h.0 (cases_spellable cs h.1)

and_yes : (a b : Bool) → b ≡ true → (a && b) ≡ a
and_yes true b e = e
and_yes false b e = refl

some_there : (n : ℕ) → true ≡ nat_lt 0 (suc n)
some_there n = sym (lt-ltb 0 (suc n) (omega arith))

fields_some : {X : Type 0} (f : X → TypedLabel) (xs : List X) → not (has_no_fields (fields_from (map f xs))) ≡ nat_lt 0 (length xs)
fields_some f [] = refl
fields_some f (x ∷ xs) = some_there (length xs)

parts_some : {X : Type 0} (f : X → Ty) (xs : List X) → not (has_no_fields (parts_from (map f xs))) ≡ nat_lt 0 (length xs)
parts_some f [] = refl
parts_some f (x ∷ xs) = some_there (length xs)

before_some : (l : List ℕ) (o : Option Ty) (cs : Cases) → not (has_no_cases (case_before l o cs)) ≡ true
before_some l None cs = refl
before_some l (Some t) cs = refl

cases_some : {X : Type 0} (f : X → CaseOf) (xs : List X) → not (has_no_cases (cases_from (map f xs))) ≡ nat_lt 0 (length xs)
cases_some f [] = refl
cases_some f (x ∷ xs) = before_some (f x).0 (f x).1 (cases_from (map f xs)) ∙ some_there (length xs)

plain_some : (ls : List (List ℕ)) → not (has_no_cases (plain_from ls)) ≡ nat_lt 0 (length ls)
plain_some [] = refl
plain_some (l ∷ ls) = some_there (length ls)

module _ (types : List Ty) where
  pub def_spellable_is : (d : TypeDef) → AreSpellable (parts_in (def_type types d)) → is_spellable (def_type types d) ≡ is_spellable_def d
  def_spellable_is (def.Primitive primitive.Bool) h = refl
  def_spellable_is (def.Primitive primitive.S8) h = refl
  def_spellable_is (def.Primitive primitive.U8) h = refl
  def_spellable_is (def.Primitive primitive.S16) h = refl
  def_spellable_is (def.Primitive primitive.U16) h = refl
  def_spellable_is (def.Primitive primitive.S32) h = refl
  def_spellable_is (def.Primitive primitive.U32) h = refl
  def_spellable_is (def.Primitive primitive.S64) h = refl
  def_spellable_is (def.Primitive primitive.U64) h = refl
  def_spellable_is (def.Primitive primitive.Char) h = refl
  def_spellable_is (def.Primitive primitive.String) h = refl
  def_spellable_is (def.List p) h = h.0
  def_spellable_is (def.FixedList p n) h = and_yes _ _ h.0
  def_spellable_is (def.Record fs) h = and_yes _ _ (fields_spellable (fields_from (map (field_def_type types) fs.items)) h) ∙ fields_some (field_def_type types) fs.items
  def_spellable_is (def.Tuple ps) h = and_yes _ _ (fields_spellable (parts_from (map (type_at types) ps.items)) h) ∙ parts_some (type_at types) ps.items
  def_spellable_is (def.Variant cs) h = and_yes _ _ (cases_spellable (cases_from (map (case_def_type types) cs.items)) h) ∙ cases_some (case_def_type types) cs.items
  def_spellable_is (def.Enum ls) h = and_yes _ _ (cases_spellable (plain_from ls.items) h) ∙ plain_some ls.items
  def_spellable_is (def.Flags ls) h = refl
  def_spellable_is (def.Option p) h = and_yes _ _ (cases_spellable (plain (codes "none") (carrying (codes "some") (type_at types p) no_cases)) h)
  def_spellable_is (def.Result ok error) h =
      and_yes _ _ (cases_spellable (case_before (codes "ok") (option_map (type_at types) ok) (case_before (codes "error") (option_map (type_at types) error) no_cases)) h)
      ∙ before_some (codes "ok") (option_map (type_at types) ok) (case_before (codes "error") (option_map (type_at types) error) no_cases)
  def_spellable_is (def.Own r) h = refl
  def_spellable_is (def.Borrow r) h = refl
