-- Names of types that lead nowhere (WIT.md, "Item: `use`" and "Item: `ty`"; that the name of a
-- borrow is that of a resource, declared or used, is this project's own choice).
use Rattle.std.specs.Prelude.{◌≡◌, ℕ, true, ◌++◌, List, [], ◌∷◌, Option, Some, None, slice_get}
use Rattle.std.specs.List.{AllByRecursion, flat_map}
use Rattle.cm_names.specs.Keys.{Key}
use Rattle.cm_wit_reading.specs.Types.{Ty, Tys, primitive, named, borrow, list, fixed_list, option}
use Rattle.cm_wit_reading.specs.Types.{tuple, plain_result, ok_result, error_result, result}
use Rattle.cm_wit_reading.specs.Types.{no_types, types}
use Rattle.cm_wit_reading.specs.Trees.{TypeDef, alias, record_of, variant, enum, flags, resource}
use Rattle.cm_wit_tables.specs.Declarations.{Declared, Declaration, brought, defined, target}
use Rattle.cm_wit_tables.specs.Declarations.{names_in_def}
use Rattle.cm_wit_tables.specs.Tables.{is_resource}

abbrev mutual
  -- the names of borrowed resources in a type text
  pub borrowed_in : Ty → List (List ℕ)
  borrowed_in (primitive p) = []
  borrowed_in (named n) = []
  borrowed_in (borrow n) = n ∷ []
  borrowed_in (list t) = borrowed_in t
  borrowed_in (fixed_list t n) = borrowed_in t
  borrowed_in (option t) = borrowed_in t
  borrowed_in (tuple ts) = borrowed_in_all ts
  borrowed_in plain_result = []
  borrowed_in (ok_result t) = borrowed_in t
  borrowed_in (error_result t) = borrowed_in t
  borrowed_in (result t u) = borrowed_in t ++ borrowed_in u

  pub borrowed_in_all : Tys → List (List ℕ)
  borrowed_in_all no_types = []
  borrowed_in_all (types t ts) = borrowed_in t ++ borrowed_in_all ts

-- those in a payload, if there is one
abbrev pub borrowed_in_payload : Option Ty → List (List ℕ)
borrowed_in_payload None = []
borrowed_in_payload (Some t) = borrowed_in t

-- those in what a definition defines
abbrev pub borrowed_in_def : TypeDef → List (List ℕ)
borrowed_in_def (alias t) = borrowed_in t
borrowed_in_def (record_of fs) = flat_map (λ f. borrowed_in f.1) fs
borrowed_in_def (variant cs) = flat_map (λ c. borrowed_in_payload c.ty) cs
borrowed_in_def (enum names) = []
borrowed_in_def (flags names) = []
borrowed_in_def (resource fs) = []

-- the k-th declaration is this
abbrev pub Declares : List Declaration → ℕ → Declared → Type 0
Declares ds k is = (d : Declaration) × (slice_get ds k ≡ Some d) × (d.is ≡ is)

-- A declaration is of a resource: it defines one, or brings one from where it is declared, by way
-- of others or not.
pub data IsResource (ds : List Declaration) : ℕ → Type 0 where
  own_one : (k : ℕ) (t : TypeDef) → Declares ds k (defined t) → is_resource t ≡ true
      → IsResource ds k
  brought_one : (k j : ℕ) (key : Key) → Declares ds k (brought (Some key))
      → target ds key ≡ Some j → IsResource ds j → IsResource ds k

-- a key leads to a declaration, and to one of a resource
abbrev pub LeadsToType : List Declaration → Key → Type 0
LeadsToType ds key = (j : ℕ) × (target ds key ≡ Some j)

abbrev pub LeadsToResource : List Declaration → Key → Type 0
LeadsToResource ds key = (j : ℕ) × (target ds key ≡ Some j) × IsResource ds j

-- Each name in the text of a declaration leads to a type, and that of a borrow to a resource.
abbrev pub HasTypes : List Declaration → ℕ → Declared → Type 0
HasTypes ds l (brought None) = ⊥
HasTypes ds l (brought (Some key)) = LeadsToType ds key
HasTypes ds l (defined t) =
    AllByRecursion (λ n. LeadsToType ds (l, n)) (names_in_def t)
    × AllByRecursion (λ n. LeadsToResource ds (l, n)) (borrowed_in_def t)

-- Each name in each declaration leads to a type, and that of a borrow to a resource; where one does
-- not, a world has no such type.
abbrev pub AllHaveTypes : List Declaration → Type 0
AllHaveTypes ds =
    (k : ℕ) (d : Declaration) → slice_get ds k ≡ Some d → HasTypes ds d.in_list d.is
