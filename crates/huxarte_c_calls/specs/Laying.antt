-- The types of a function (CanonicalABI.md, "Flattening"), by numbers (this project's own choice).
use Rattle.std.specs.Prelude.{◌==◌, ℕ, List, if◌then◌else◌, Option, None, Some, option_and_then}
use Rattle.cm_types.specs.Types.{Ty, FuncTy, fields, tuple_type}
use Rattle.huxarte_c_calls.specs.declared.nodes.HuxNode.{HuxNode}
use Rattle.huxarte_c_calls.specs.Nodes.{node_at}

-- the tuple of a function's parameters, by 0, or its result, by 1, if it has one
abbrev pub type_by : FuncTy → ℕ → Option Ty
type_by f way =
    if way == 0 then Some (fields tuple_type f.params) else (if way == 1 then f.result else None)

-- the layout, as numbers, of the type that a path leads to from there
abbrev pub node_by : FuncTy → ℕ → List ℕ → Option HuxNode
node_by f way path = option_and_then (λ t. node_at t path) (type_by f way)
