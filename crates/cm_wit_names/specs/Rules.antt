-- The rules on the names of a file (WIT.md, "Packages and Worlds"; that names are distinct without
-- ASCII case, and the order of faults, are this project's own choice).
use Rattle.std.specs.Prelude.{◌≡◌, ℕ, ◌<◌, ◌&&◌, ◌⊎◌, Bool, true, false, List, Option, Some, None}
use Rattle.std.specs.Prelude.{map, take, codes, MatchOption, [], if◌then◌else◌}
use Rattle.std.specs.List.{filter_map, Contains}
use Rattle.std.specs.Option.{option_map, option_map_or}
use Rattle.std.specs.Char.{to_ascii_lowercase}
use Rattle.std.specs.Str.{bytes_eq}
use Rattle.cm_types.specs.ExternNames as full
use Rattle.cm_types.specs.ExternNames.{NameTree, name_spelling}
use Rattle.cm_wit_tokens.specs.declared.fault.WitReason.{WitReason}
use Rattle.cm_wit_tokens.specs.declared.fault.WitReason.TheVariants as reason
use Rattle.cm_wit_tokens.specs.Reasons.{reason_number}
use Rattle.cm_wit_names.specs.Mentions.{ListedName, Mention, Reference, no_reference}
use Rattle.cm_wit_names.specs.Mentions.{to_interface, to_used, to_type, to_resource}
use Rattle.cm_wit_graph.specs.Graphs.{ReachesItself}
use Rattle.cm_wit_names.specs.Known.{known_at, target, edges, IsAt, IsResource, HoldsBorrow}

-- ---- distinct names

-- a full name without ASCII case
abbrev pub folded : NameTree → List ℕ
folded name = map to_ascii_lowercase (name_spelling name)

-- an interface's name without its package
abbrev pub own_part : NameTree → NameTree
own_part (full.interface ns pkg text version) = full.interface [] [] text None
own_part (full.plain l) = full.plain l
own_part (full.method r m) = full.method r m
own_part (full.static r m) = full.static r m
own_part (full.constructor r) = full.constructor r

-- What tells a declared name from others: its full name, but of an interface of the file's own
-- package what stands behind the package. Nothing is lost: full names of one package differ exactly
-- where these parts do, and since no label is empty, the full name of another package is no such
-- part.
abbrev pub told_by : ListedName → NameTree
told_by d = if d.is_own then own_part d.name else d.name

-- the list in which a mention has to be distinct, and its name there
abbrev pub key_of : Mention → Option (ℕ × List ℕ)
key_of m = option_map (λ d. (d.in_list, folded (told_by d))) m.declares

-- a name that an implied `self` has
abbrev pub is_self : Mention → Bool
is_self m =
    option_map_or (λ d. d.after_self && bytes_eq (folded d.name) (codes "self")) m.declares false

-- the name is that of an implied `self`, or one of these names of its list
abbrev pub IsAmong : List (ℕ × List ℕ) → Mention → Type 0
IsAmong keys m =
    (is_self m ≡ true)
    ⊎ ((key : ℕ × List ℕ) × (key_of m ≡ Some key) × Contains keys key)

-- the name stands in its list already
abbrev pub IsTaken : List Mention → Mention → Type 0
IsTaken before m = IsAmong (filter_map key_of before) m

-- ---- names that lead nowhere

-- nothing that the reference can mean is declared; what is used from an interface that is not
-- declared is not looked at
abbrev pub IsUnknown : List Mention → Reference → Type 0
IsUnknown ms no_reference = ⊥
IsUnknown ms (to_interface text) = known_at ms 0 text ≡ None
IsUnknown ms (to_used interface text) =
    (n : ℕ) × (known_at ms 0 interface ≡ Some n) × (known_at ms n text ≡ None)
IsUnknown ms (to_type n text) = known_at ms n text ≡ None
IsUnknown ms (to_resource n text) =
    (k : ℕ) → known_at ms n text ≡ Some k → IsResource ms k → ⊥

-- ---- borrows in results

-- a reference to a declaration that leads to a borrow
abbrev pub LeadsOn : List Mention → Reference → Type 0
LeadsOn ms r = (k : ℕ) × (target ms r ≡ Some k) × HoldsBorrow ms k

-- a name in a result that leads to a borrow
abbrev pub LeadsToBorrow : List Mention → Mention → Type 0
LeadsToBorrow ms m = (m.in_result ≡ true) × LeadsOn ms m.refers

-- ---- faults

-- the least number of which P holds, if there is one
abbrev pub IsLeast : (ℕ → Type 0) → Option ℕ → Type 0
IsLeast P least =
    MatchOption least ((n : ℕ) → P n → ⊥) (λ n. P n × ((k : ℕ) → k < n → P k → ⊥))

-- The n-th name of a file has a fault of this reason.
abbrev pub HasFault : List Mention → ℕ → WitReason → Type 0
HasFault ms n reason.Unexpected = IsAt ms n (LeadsToBorrow ms)
HasFault ms n reason.Duplicate = IsAt ms n (IsTaken (take n ms))
HasFault ms n reason.UnknownName = IsAt ms n (λ m. IsUnknown ms m.refers)
HasFault ms n reason.Cycle = ReachesItself (edges ms) n
HasFault ms n _ = ⊥

-- Borrows come before all other faults, and then faults in reading order, of one name the smallest
-- number first.
abbrev pub Precedes : ℕ → WitReason → ℕ → WitReason → Type 0
Precedes m reason.Unexpected n reason.Unexpected = m < n
Precedes m reason.Unexpected n s = Unit {0}
Precedes m r n reason.Unexpected = ⊥
Precedes m r n s = (m < n) ⊎ ((m ≡ n) × (reason_number r < reason_number s))

-- The first fault of the names of a file, if they have one.
abbrev pub IsFirstFault : List Mention → Option (ℕ × WitReason) → Type 0
IsFirstFault ms fault =
    MatchOption fault ((n : ℕ) (r : WitReason) → HasFault ms n r → ⊥)
    (λ f. HasFault ms f.0 f.1
    × ((n : ℕ) (r : WitReason) → HasFault ms n r → Precedes n r f.0 f.1 → ⊥))
