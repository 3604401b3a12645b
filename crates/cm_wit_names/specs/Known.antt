-- What the names of a file lead to.
use Rattle.std.specs.Prelude.{◌≡◌, ℕ, ◌==◌, ◌&&◌, nat_lt, Bool, true, false, List, length}
use Rattle.std.specs.Prelude.{Option, Some, None, map, slice_get, if◌then◌else◌}
use Rattle.std.specs.List.{filter_map, position_from}
use Rattle.std.specs.Option.{option_map_or, option_and_then}
use Rattle.std.specs.Str.{bytes_eq}
use Rattle.cm_wit_names.specs.Mentions.{Mention, Reference, no_reference, to_interface, to_used}
use Rattle.cm_wit_names.specs.Mentions.{to_type, to_resource}
use Rattle.cm_wit_graph.specs.Graphs.{Edges, Leads, LeadsToMarked}

-- whether a mention makes a type or an interface known by this number and name
abbrev pub is_known_as : ℕ → List ℕ → Mention → Bool
is_known_as n text m = option_map_or (λ k. (n == k.0) && bytes_eq text k.1) m.known false

-- the first mention that does
abbrev pub known_at : List Mention → ℕ → List ℕ → Option ℕ
known_at ms n text = position_from (is_known_as n text) 0 ms

-- the mention to which a reference leads: names are the same where their texts are, and an
-- interface is known by 0
abbrev pub target : List Mention → Reference → Option ℕ
target ms no_reference = None
target ms (to_interface text) = known_at ms 0 text
target ms (to_used interface text) =
    option_and_then (λ n. known_at ms n text) (known_at ms 0 interface)
target ms (to_type n text) = known_at ms n text
target ms (to_resource n text) = known_at ms n text

-- ---- what leads to what

abbrev pub is_borrow : Reference → Bool
is_borrow (to_resource n text) = true
is_borrow _ = false

abbrev pub is_used : Reference → Bool
is_used (to_used interface text) = true
is_used _ = false

-- an edge from the declaration in whose text a name stands to what the name refers to
abbrev pub edge : ℕ → Option ℕ → Option ℕ → Option (ℕ × ℕ)
edge size None b = None
edge size (Some a) None = None
edge size (Some a) (Some b) = if nat_lt a size then Some (a, b) else None

-- a declaration leads to those that its text names, but for borrows
abbrev pub leading_edge : List Mention → Mention → Option (ℕ × ℕ)
leading_edge ms m =
    if is_borrow m.refers then None else edge (length ms) m.owner (target ms m.refers)

abbrev pub edges : List Mention → Edges
edges ms = filter_map (leading_edge ms) ms

-- a used name leads to the type that is used
abbrev pub using_edge : List Mention → Mention → Option (ℕ × ℕ)
using_edge ms m =
    if is_used m.refers then edge (length ms) m.owner (target ms m.refers) else None

abbrev pub using_edges : List Mention → Edges
using_edges ms = filter_map (using_edge ms) ms

-- a type is a resource where it is declared as one or used, from one use to the next, from where
-- it is; what is used from another package may be one
abbrev pub IsResource : List Mention → ℕ → Type 0
IsResource ms k = LeadsToMarked (using_edges ms) (map (λ m. m.may_be_resource) ms) k

-- the n-th mention is such a one
abbrev pub IsAt : List Mention → ℕ → (Mention → Type 0) → Type 0
IsAt ms n P = (m : Mention) × (slice_get ms n ≡ Some m) × P m

-- the declaration in whose text a mention is a borrow
abbrev pub borrow_owner : Mention → Option ℕ
borrow_owner m = if is_borrow m.refers then m.owner else None

-- a borrow stands in the text of a declaration
abbrev pub HasBorrow : List Mention → ℕ → Type 0
HasBorrow ms k = (n : ℕ) × IsAt ms n (λ m. borrow_owner m ≡ Some k)

-- a declaration leads to one with a borrow in its text
abbrev pub HoldsBorrow : List Mention → ℕ → Type 0
HoldsBorrow ms k = (j : ℕ) × Leads (edges ms) k j × HasBorrow ms j
