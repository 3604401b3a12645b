-- The types that the interfaces of a world declare, and which declarations the names in their texts
-- lead to (WIT.md, "Item: `use`" and "Item: `type`").
use Rattle.std.specs.Prelude.{ℕ, ◌<◌, ◌++◌, List, [], ◌∷◌, Option, Some}
use Rattle.std.specs.Prelude.{None, map, slice_get}
use Rattle.std.specs.List.{AllByRecursion, filter_map, flat_map}
use Rattle.std.specs.Option.{option_map_or}
use Rattle.cm_names.specs.Keys.{Key, first_key}
use Rattle.cm_wit_graph.specs.Orders.{NeedsItself}
use Rattle.cm_wit_reading.specs.Types.{Ty, Tys, primitive, named, borrow, list, fixed_list, option}
use Rattle.cm_wit_reading.specs.Types.{tuple, plain_result, ok_result, error_result, result}
use Rattle.cm_wit_reading.specs.Types.{no_types, types}
use Rattle.cm_wit_reading.specs.Trees.{TypeDef, alias, record_of, variant, enum, flags}
use Rattle.cm_wit_reading.specs.Trees.{resource}

-- what a name is declared to be: a type that is used from the list of names of this number, if the
-- path leads to one, where it has this name; or what a definition defines
pub data Declared : Type 0 where
  brought : Option Key → Declared
  defined : TypeDef → Declared

-- a type that is declared, among the names of the list that has this number
pub record Declaration : Type 0 where
  pub in_list : ℕ
  pub name : List ℕ
  pub is : Declared

-- ---- names in texts

abbrev mutual
  -- the names in a type text, those of borrowed resources too
  pub names_in : Ty → List (List ℕ)
  names_in (primitive p) = []
  names_in (named n) = n ∷ []
  names_in (borrow n) = n ∷ []
  names_in (list t) = names_in t
  names_in (fixed_list t n) = names_in t
  names_in (option t) = names_in t
  names_in (tuple ts) = names_in_all ts
  names_in plain_result = []
  names_in (ok_result t) = names_in t
  names_in (error_result t) = names_in t
  names_in (result t u) = names_in t ++ names_in u

  pub names_in_all : Tys → List (List ℕ)
  names_in_all no_types = []
  names_in_all (types t ts) = names_in t ++ names_in_all ts

-- those in a payload, if there is one
abbrev pub names_in_payload : Option Ty → List (List ℕ)
names_in_payload None = []
names_in_payload (Some t) = names_in t

-- those in what a definition defines; the functions of a resource are no part of it
abbrev pub names_in_def : TypeDef → List (List ℕ)
names_in_def (alias t) = names_in t
names_in_def (record_of fs) = flat_map (λ f. names_in f.1) fs
names_in_def (variant cs) = flat_map (λ c. names_in_payload c.ty) cs
names_in_def (enum names) = []
names_in_def (flags names) = []
names_in_def (resource fs) = []

-- ---- what names lead to

-- the keys of declarations: of several of one name in a list, the name means the first
abbrev pub key_of : Declaration → Key
key_of d = (d.in_list, d.name)

abbrev pub keys_of : List Declaration → List Key
keys_of ds = map key_of ds

-- the keys to which the text of a declaration refers
abbrev pub referred : ℕ → Declared → List Key
referred l (brought None) = []
referred l (brought (Some key)) = key ∷ []
referred l (defined t) = map (λ n. (l, n)) (names_in_def t)

abbrev pub refers : Declaration → List Key
refers d = referred d.in_list d.is

-- the declaration to which a key leads
abbrev pub target : List Declaration → Key → Option ℕ
target ds key = first_key (keys_of ds) key.0 key.1

-- the declarations to which the names in the text of the k-th lead
abbrev pub uses : List Declaration → ℕ → List ℕ
uses ds k = filter_map (target ds) (option_map_or refers (slice_get ds k) [])

-- Declarations can be ranked so that each stands above those that it uses: none uses itself, by way
-- of others or not.
abbrev pub IsRanked : List Declaration → (ℕ → ℕ) → Type 0
IsRanked ds rank = (k : ℕ) → AllByRecursion (λ j. rank j < rank k) (uses ds k)

-- A declaration uses itself, by way of others or not.
abbrev pub HasTypeCycle : List Declaration → Type 0
HasTypeCycle ds = (k : ℕ) × NeedsItself (uses ds) k
