-- Parts of types with resources replaced.
use Rattle.std.proofs.Common.{◌≡◌, ◌∙◌, ℕ, List, [], ◌∷◌, map, length, Option, Some, None, is_some, refl, ap, sym, arith}
use Rattle.std.specs.Option.{option_map}
use Rattle.std.proofs.lemmas.List.{length-map}
use Rattle.std.proofs.Math.ListN.{get_or-map}
use Rattle.cm_types.specs.Limits.{nodes_of, nodes_of_fields}
use Rattle.cm_types.specs.TypeTrees.{case_before}
use Rattle.cm_types.specs.Types.{Ty, Fields, Cases, bool, signed, unsigned, char, string, list, fixed_list, fields, cases, flags, own, borrow, no_fields, field, no_cases, plain, carrying, tuple_type, result_type}
use Rattle.cm_types_arena.specs.Arena.{field_types, parts_in, payload_types}
use Rattle.cm_types_arena.specs.TypeDefs.{type_at}
use Rattle.cm_types_arena.specs.Replaced.{Standing, replaced, replaced_fields, replaced_cases}
use Rattle.cm_layout_placed.specs.Placed.{result_cases, types_by}

pub fields_by : (s : Standing) (fs : Fields) → field_types (replaced_fields s fs) ≡ map (replaced s) (field_types fs)
fields_by s no_fields = refl
fields_by s (field l t fs) = ap (λ ts. replaced s t ∷ ts) (fields_by s fs)

pub payloads_by : (s : Standing) (cs : Cases) → payload_types (replaced_cases s cs) ≡ map (replaced s) (payload_types cs)
payloads_by s no_cases = refl
payloads_by s (plain l cs) = payloads_by s cs
payloads_by s (carrying l t cs) = ap (λ ts. replaced s t ∷ ts) (payloads_by s cs)

pub parts_by : (s : Standing) (t : Ty) → parts_in (replaced s t) ≡ map (replaced s) (parts_in t)
parts_by s bool = refl
parts_by s (signed w) = refl
parts_by s (unsigned w) = refl
parts_by s char = refl
parts_by s string = refl
parts_by s (list t) = refl
parts_by s (fixed_list t n) = refl
parts_by s (fields k fs) = fields_by s fs
parts_by s (cases k cs) = payloads_by s cs
parts_by s (flags ls) = refl
parts_by s (own r) = refl
parts_by s (borrow r) = refl

pub before_by : (s : Standing) (l : List ℕ) (o : Option Ty) (cs : Cases) → replaced_cases s (case_before l o cs) ≡ case_before l (option_map (replaced s) o) (replaced_cases s cs)
before_by s l None cs = refl
before_by s l (Some t) cs = refl

pub result_by : (s : Standing) (ok error : Option Ty) → replaced s (cases result_type (result_cases ok error)) ≡ cases result_type (result_cases (option_map (replaced s) ok) (option_map (replaced s) error))
result_by s None None = refl
result_by s None (Some e) = refl
result_by s (Some t) None = refl
result_by s (Some t) (Some e) = refl

pub some_by : (s : Standing) (o : Option Ty) → is_some (option_map (replaced s) o) ≡ is_some o
some_by s None = refl
some_by s (Some t) = refl

pub type_by : (s : Standing) (types : List Ty) (p : ℕ) → type_at (types_by s types) p ≡ replaced s (type_at types p)
type_by s types p = get_or-map (replaced s) types p bool

pub types_at_by : (s : Standing) (types : List Ty) (ps : List ℕ) → map (replaced s) (map (type_at types) ps) ≡ map (type_at (types_by s types)) ps
types_at_by s types [] = refl
types_at_by s types (p ∷ ps) = ap (λ t. t ∷ map (replaced s) (map (type_at types) ps)) (sym (type_by s types p)) ∙ ap (λ ts. type_at (types_by s types) p ∷ ts) (types_at_by s types ps)

pub as_many_by : (s : Standing) (types : List Ty) → length (types_by s types) ≡ length types
as_many_by s types = length-map types (replaced s)

pub itself : (s : Standing) → ((t : Ty) → replaced s t ≡ t) → (types : List Ty) → types_by s types ≡ types
itself s stays [] = refl
itself s stays (t ∷ ts) = ap (λ u. u ∷ types_by s ts) (stays t) ∙ ap (λ us. t ∷ us) (itself s stays ts)

-- as many nodes
pub fields_nodes : (s : Standing) (fs : Fields) → nodes_of (replaced s (fields tuple_type fs)) ≡ nodes_of (fields tuple_type fs) → nodes_of_fields (replaced_fields s fs) ≡ nodes_of_fields fs
fields_nodes s fs e = omega (arith, e)
