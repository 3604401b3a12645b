-- What a value of a type takes, as the code's numbers of 32 bits (CanonicalABI.md, "Alignment",
-- "Element Size" and "Flattening"). Each node adds at most 32 bytes and 2 core values, so that no
-- sum of such numbers of one type overflows.
use Rattle.std.specs.Prelude.{◌≡◌, ◌+◌, ◌*◌, ◌≤◌, ◌==◌, max, length}
use Rattle.cm_types.specs.Types.{Ty, Fields, Cases}
use Rattle.cm_types.specs.Limits.{nodes_of, nodes_of_cases, nodes_of_fields}
use Rattle.cm_types.specs.declared.limits.TheConstants.{MAX_NODES}
use Rattle.cm_layout.specs.Sizes.{align_of, align_of_fields, align_of_payloads, end_of}
use Rattle.cm_layout.specs.Sizes.{greatest_payload, size_of}
use Rattle.cm_layout.specs.Flattening.{flat_of, flat_of_cases, flat_of_fields}
use Rattle.cm_layout.specs.PlainBytes.{is_bulk, number_bytes_of_fields}
use Rattle.cm_layout.specs.declared.heads.Head.{Head}
use Rattle.cm_layout.specs.declared.fields.FieldsSoFar.{FieldsSoFar}
use Rattle.cm_layout.specs.declared.cases.CasesSoFar.{CasesSoFar}

-- a type takes this, which is within bounds
pub record IsTakenBy (t : Ty) (h : Head) : Type 0 where
  pub size : h.size ≡ size_of t
  pub align : h.align ≡ align_of t
  pub width : h.width ≡ length (flat_of t)
  pub is_bulk : h.is_bulk ≡ is_bulk t
  pub small : h.size + 7 ≤ 32 * nodes_of t
  pub narrow : h.width ≤ 2 * nodes_of t
  pub positive : 1 ≤ h.align
  pub near : h.align ≤ 8

-- of what cases carry each number is the greatest, which is within bounds
pub record AreGreatestOf (cs : Cases) (s : CasesSoFar) : Type 0 where
  pub size : s.size ≡ greatest_payload cs
  pub align : s.align ≡ align_of_payloads cs
  pub width : s.width ≡ length (flat_of_cases cs)
  pub small : s.size ≤ 32 * nodes_of_cases cs
  pub narrow : s.width ≤ 2 * nodes_of_cases cs
  pub positive : 1 ≤ s.align
  pub near : s.align ≤ 8

-- fields, one behind the other, take this, which is within bounds
pub record TakeTogether (fs : Fields) (s : FieldsSoFar) : Type 0 where
  pub end : s.end ≡ end_of fs 0
  pub align : s.align ≡ align_of_fields fs
  pub width : s.width ≡ length (flat_of_fields fs)
  pub is_bulk : s.is_bulk ≡ (number_bytes_of_fields fs == end_of fs 0)
  pub small : s.end ≤ 32 * nodes_of_fields fs
  pub narrow : s.width ≤ 2 * nodes_of_fields fs
  pub positive : 1 ≤ s.align
  pub near : s.align ≤ 8

-- of all fields some are taken: these are left, and there is room for them
pub record LeavesFields (all rest : Fields) (s : FieldsSoFar) : Type 0 where
  pub end : end_of rest s.end ≡ end_of all 0
  pub align : max s.align (align_of_fields rest) ≡ align_of_fields all
  pub width : s.width + length (flat_of_fields rest) ≡ length (flat_of_fields all)
  pub is_bulk :
      s.is_bulk ≡ (number_bytes_of_fields all == number_bytes_of_fields rest + s.end)
  pub fit : number_bytes_of_fields all ≤ number_bytes_of_fields rest + s.end
  pub room : s.end + 32 * nodes_of_fields rest ≤ 32 * MAX_NODES
  pub space : s.width + 2 * nodes_of_fields rest ≤ 2 * MAX_NODES
  pub positive : 1 ≤ s.align
  pub near : s.align ≤ 8

-- of all cases some are taken: these are left, and there is room for them
pub record LeavesCases (all rest : Cases) (s : CasesSoFar) : Type 0 where
  pub size : max s.size (greatest_payload rest) ≡ greatest_payload all
  pub align : max s.align (align_of_payloads rest) ≡ align_of_payloads all
  pub width : max s.width (length (flat_of_cases rest)) ≡ length (flat_of_cases all)
  pub room : nodes_of_cases all ≤ MAX_NODES
  pub few : nodes_of_cases rest ≤ MAX_NODES
  pub positive : 1 ≤ s.align
  pub near : s.align ≤ 8
