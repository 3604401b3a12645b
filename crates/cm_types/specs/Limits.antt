-- How large a type is, and the limits within which types stay (this project's own choice).
use Rattle.std.specs.Prelude.{ℕ, ◌+◌, ◌*◌, ◌≤◌, max, Option, Some, None}
use Rattle.cm_types.specs.declared.limits.TheConstants.{MAX_NODES, MAX_DEPTH}
use Rattle.cm_types.specs.Types.{Ty, Fields, Cases, list, fixed_list, fields, cases, no_fields}
use Rattle.cm_types.specs.Types.{field, no_cases, plain, carrying}

abbrev mutual
  -- the nodes of a type: 1 for a leaf, and for what holds other types 1 more than these have
  -- together. A list of fixed length counts its element as often as it holds it; the length 0,
  -- which no valid type has, counts as 1.
  pub nodes_of : Ty → ℕ
  nodes_of (list t) = 1 + nodes_of t
  nodes_of (fixed_list t n) = 1 + max n 1 * nodes_of t
  nodes_of (fields k fs) = 1 + nodes_of_fields fs
  nodes_of (cases k cs) = 1 + nodes_of_cases cs
  nodes_of _ = 1

  pub nodes_of_fields : Fields → ℕ
  nodes_of_fields no_fields = 0
  nodes_of_fields (field l t fs) = nodes_of t + nodes_of_fields fs

  pub nodes_of_cases : Cases → ℕ
  nodes_of_cases no_cases = 0
  nodes_of_cases (plain l cs) = nodes_of_cases cs
  nodes_of_cases (carrying l t cs) = nodes_of t + nodes_of_cases cs

abbrev mutual
  -- the depth of a type: 1 for a leaf, and for what holds other types 1 more than the deepest of
  -- these
  pub depth_of : Ty → ℕ
  depth_of (list t) = 1 + depth_of t
  depth_of (fixed_list t n) = 1 + depth_of t
  depth_of (fields k fs) = 1 + depth_of_fields fs
  depth_of (cases k cs) = 1 + depth_of_cases cs
  depth_of _ = 1

  pub depth_of_fields : Fields → ℕ
  depth_of_fields no_fields = 0
  depth_of_fields (field l t fs) = max (depth_of t) (depth_of_fields fs)

  pub depth_of_cases : Cases → ℕ
  depth_of_cases no_cases = 0
  depth_of_cases (plain l cs) = depth_of_cases cs
  depth_of_cases (carrying l t cs) = max (depth_of t) (depth_of_cases cs)

-- a type has at most so many nodes, and is at most so deep
abbrev pub IsWithin : ℕ → ℕ → Ty → Type 0
IsWithin most depth t = (nodes_of t ≤ most) × (depth_of t ≤ depth)

-- fields, and cases, have together at most so many nodes, and are at most so deep
abbrev pub AreFieldsWithin : ℕ → ℕ → Fields → Type 0
AreFieldsWithin most depth fs = (nodes_of_fields fs ≤ most) × (depth_of_fields fs ≤ depth)

abbrev pub AreCasesWithin : ℕ → ℕ → Cases → Type 0
AreCasesWithin most depth cs = (nodes_of_cases cs ≤ most) × (depth_of_cases cs ≤ depth)

-- the limits on one type: 10,000 nodes and a depth of 64
abbrev pub IsWithinLimits : Ty → Type 0
IsWithinLimits t = IsWithin MAX_NODES MAX_DEPTH t

-- the nodes and the depth of a payload
abbrev pub payload_nodes : Option Ty → ℕ
payload_nodes None = 0
payload_nodes (Some t) = nodes_of t

abbrev pub payload_depth : Option Ty → ℕ
payload_depth None = 0
payload_depth (Some t) = depth_of t

abbrev pub IsPayloadWithin : ℕ → ℕ → Option Ty → Type 0
IsPayloadWithin most depth p = (payload_nodes p ≤ most) × (payload_depth p ≤ depth)
