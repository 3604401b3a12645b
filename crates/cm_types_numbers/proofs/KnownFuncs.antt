-- The number of a function's type, from the numbers of the types in it.
use Rattle.std.proofs.Common.{◌≡◌, ℕ, List, length, map, ◌≤◌, Option, Some, None, refl, sym, ap, subst, ◌∙◌}
use Rattle.std.specs.Option.{option_map}
use Rattle.std.proofs.lemmas.List.{get_or_past}
use Rattle.cm_types.specs.TypeTrees.{fields_of}
use Rattle.cm_types.specs.Types.{Ty, FuncTy, Fields, no_fields}
use Rattle.cm_types.specs.declared.type_trees.Field.{Field}
use Rattle.cm_types_arena.specs.Arena.{field_types}
use Rattle.cm_types_arena.specs.TypeDefs.{func_at, type_at}
use Rattle.cm_types_arena.specs.Replaced.{Standing, replaced, replaced_fields, replaced_func}
use Rattle.cm_types_numbers.specs.declared.key.Key.TheVariants as key
use Rattle.cm_types_numbers.specs.declared.key.Leaf.TheVariants as leaf
use Rattle.cm_types_numbers.specs.Numbering.{Numbering, number, number_fields, number_func, over, Extends, AreNumbers}
use Rattle.cm_types_numbers.proofs.NodeLemmas.{procedure_numbered, func_numbered}
use Rattle.cm_types_numbers.proofs.Places.{as_many}
use Rattle.cm_types_numbers.proofs.Stays.{stays}
use Rattle.cm_types_arena.proofs.ArenaLemmas.{fields_long}

module _ (t u v : Numbering) (c : Extends u v) (s : Standing) (ts : List Ty) (places parts : List ℕ) (are : AreNumbers t s (map (type_at ts) places) parts) (f : FuncTy) (fs : List Field) (fe : fields_of fs ≡ f.params)
    (types : field_types f.params ≡ map (type_at ts) places) where
  here : AreNumbers t s (field_types (fields_of fs)) parts
  here =
      let all : field_types (fields_of fs) ≡ map (type_at ts) places = ap field_types fe ∙ types in
      subst (λ (us : List Ty). AreNumbers t s us parts) (sym all) are

  -- there are as many numbers as parameters
  pub known_long : length parts ≡ length fs
  known_long = as_many (λ y. number t (replaced s y)) (field_types (fields_of fs)) parts here ∙ fields_long fs

  module _ (params : ℕ) (made : AreNumbers t s (field_types (fields_of fs)) parts → number_fields u (replaced_fields s (fields_of fs)) ≡ Some params) where
    params_known : number_fields u (replaced_fields s f.params) ≡ Some params
    params_known = subst (λ (gs : Fields). number_fields u (replaced_fields s gs) ≡ Some params) fe (made here)

    pub procedure_known : (n : ℕ) → f.result ≡ None → v.node (key.FuncWithoutResult params) ≡ Some n → number_func v (replaced_func s f) ≡ Some n
    procedure_known n none is = procedure_numbered u v c (replaced_func s f) params n (ap (option_map (replaced s)) none) params_known is

    pub func_known : (w : Numbering) → Extends w v → (n m place : ℕ) → f.result ≡ Some (type_at ts place) → number w (replaced s (type_at ts place)) ≡ Some m → v.node (key.Func params m) ≡ Some n → number_func v (replaced_func s f) ≡ Some n
    func_known w e n m place answer at is =
        func_numbered u v c (replaced_func s f) (replaced s (type_at ts place)) params m n (ap (option_map (replaced s)) answer) (stays w v e (replaced s (type_at ts place)) m at) params_known is

-- behind the last place
pub none_known : (u v : Numbering) → Extends u v → (s : Standing) (fs : List FuncTy) (place params n : ℕ) → length fs ≤ place → u.node (key.Leaf leaf.NoFields) ≡ Some params → v.node (key.FuncWithoutResult params) ≡ Some n → number_func v (replaced_func s (func_at fs place)) ≡ Some n
none_known u v c s fs place params n le p is =
    ap (λ (f : FuncTy). number_func v (replaced_func s f)) (get_or_past fs place (record { params = no_fields; result = None }) le)
    ∙ ap (λ (o : Option ℕ). over v key.FuncWithoutResult o) (c.nodes (key.Leaf leaf.NoFields) params p) ∙ is
