-- Layouts whose numbers have the sizes that numbers have (CanonicalABI.md, "Element Size").
use Rattle.std.specs.Prelude.{ℕ, ◌+◌, ◌<◌, ◌≤◌, ⊤}
use Rattle.cm_layout.specs.Laid.{Laid}
use Rattle.cm_layout.specs.Shapes.{LayoutTy, Shape, Parts, Payloads, leaf_shape, string_shape}
use Rattle.cm_layout.specs.Shapes.{list_shape}
use Rattle.cm_layout.specs.Shapes.{fixed_list_shape, fields_shape, cases_shape, handle_shape}
use Rattle.cm_layout.specs.Shapes.{no_parts, part, no_payloads, nothing, carried}
pub use Rattle.cm_abi_load.specs.Sizes.{IsNumberSize, IsSizedLeaf, core_size}

abbrev mutual
  -- each number in a shape has one of these sizes, and each element of a list an alignment
  pub IsSized : Shape → Type 0
  IsSized (leaf_shape k) = IsSizedLeaf k
  IsSized string_shape = ⊤
  IsSized (list_shape e sh) = (0 < e.align) × IsSized sh
  IsSized (fixed_list_shape e sh n) = IsSized sh
  IsSized (fields_shape ps) = ArePartsSized ps
  IsSized (cases_shape d o ps) = IsNumberSize d × (d ≤ 4) × ArePayloadsSized ps
  IsSized (handle_shape h) = ⊤

  pub ArePartsSized : Parts → Type 0
  ArePartsSized no_parts = ⊤
  ArePartsSized (part o e sh ps) = IsSized sh × ArePartsSized ps

  pub ArePayloadsSized : Payloads → Type 0
  ArePayloadsSized no_payloads = ⊤
  ArePayloadsSized (nothing ps) = ArePayloadsSized ps
  ArePayloadsSized (carried e sh ps) = IsSized sh × ArePayloadsSized ps

-- what a layout has at an address lies within so many bytes, and what it holds lies within it
pub record IsReadable (limit at : ℕ) (l : LayoutTy) : Type 0 where
  pub inside : at + l.head.size ≤ limit
  pub laid : Laid l.head.size l.shape
  pub sized : IsSized l.shape

-- fields, and payloads at one address, can be read
abbrev pub ArePartsReadable : ℕ → ℕ → Parts → Type 0
ArePartsReadable limit at no_parts = ⊤
ArePartsReadable limit at (part o e sh ps) =
    IsReadable limit (at + o) (record { head = e; shape = sh }) × ArePartsReadable limit at ps

abbrev pub ArePayloadsReadable : ℕ → ℕ → Payloads → Type 0
ArePayloadsReadable limit at no_payloads = ⊤
ArePayloadsReadable limit at (nothing ps) = ArePayloadsReadable limit at ps
ArePayloadsReadable limit at (carried e sh ps) =
    IsReadable limit at (record { head = e; shape = sh }) × ArePayloadsReadable limit at ps
