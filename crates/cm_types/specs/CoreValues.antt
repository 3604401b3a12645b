-- Core values and their kinds (CanonicalABI.md, "Flattening").
use Rattle.cm_types.specs.declared.core_value.CoreKind.{CoreKind}
use Rattle.cm_types.specs.declared.core_value.CoreKind.TheVariants as core_kind
use Rattle.cm_types.specs.declared.core_value.CoreValue.{CoreValue}
use Rattle.cm_types.specs.declared.core_value.CoreValue.TheVariants as core_value

-- the kind of a core value
abbrev pub kind_of : CoreValue → CoreKind
kind_of (core_value.I32 n) = core_kind.I32
kind_of (core_value.I64 n) = core_kind.I64
