-- What the names in texts lead to among keys, as tests.
use Rattle.std.specs.Prelude.{ℕ, Bool, false, ◌&&◌, List, Option, Some, None, is_some, map}
use Rattle.std.specs.Prelude.{slice_index_or}
use Rattle.std.specs.List.{filter_map, list_all}
use Rattle.cm_names.specs.Keys.{Key, first_key}
use Rattle.cm_wit_tables.specs.Declarations.{Declaration, Declared, brought, defined}
use Rattle.cm_wit_tables.specs.Declarations.{names_in_def}
use Rattle.cm_wit_tables.specs.Declarations.{refers}
use Rattle.cm_wit_tables.specs.TypeFaults.{borrowed_in_def}

-- the place to which a key leads
abbrev pub found : List Key → Key → Option ℕ
found keys key = first_key keys key.0 key.1

-- the keys of names in a list
abbrev pub named : ℕ → List (List ℕ) → List Key
named l names = map (λ n. (l, n)) names

-- the places to which the names in the text of a declaration lead
abbrev pub uses_by : List Key → Declaration → List ℕ
uses_by keys d = filter_map (found keys) (refers d)

-- the place from which a type is brought, if its key leads to one
abbrev pub brought_target : List Key → Declared → Option ℕ
brought_target keys (brought None) = None
brought_target keys (brought (Some key)) = found keys key
brought_target keys (defined t) = None

-- whether there is a place, and it is marked
abbrev pub is_marked_place : List Bool → Option ℕ → Bool
is_marked_place marks None = false
is_marked_place marks (Some k) = slice_index_or marks k false

-- whether each name in the text of what is declared in the l-th list leads to a place, and that of
-- a borrow to a marked one
abbrev pub have_types : List Key → List Bool → ℕ → Declared → Bool
have_types keys marks l (brought None) = false
have_types keys marks l (brought (Some key)) = is_some (found keys key)
have_types keys marks l (defined t) =
    list_all (λ key. is_some (found keys key)) (named l (names_in_def t))
    && list_all (λ key. is_marked_place marks (found keys key)) (named l (borrowed_in_def t))

abbrev pub has_types : List Key → List Bool → Declaration → Bool
has_types keys marks d = have_types keys marks d.in_list d.is
