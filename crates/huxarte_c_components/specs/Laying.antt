-- How the types of a component's functions lie in memory and in core values (CanonicalABI.md,
-- "Alignment", "Element Size" and "Flattening").
use Rattle.std.specs.Prelude.{◌≡◌, ◌⊎◌, ⊤, ℕ, List, [], ◌∷◌, None, Some}
use Rattle.cm_shims.specs.Files.{IsFileFault}
use Rattle.cm_types.specs.Types.{FuncTy}
use Rattle.cm_validate_model.specs.Spaces.{Spaces}
use Rattle.huxarte_c_components.specs.declared.fault.ComponentFault.{ComponentFault}
use Rattle.huxarte_c_components.specs.declared.fault.ComponentFault.TheVariants as fault
use Rattle.huxarte_c_components.specs.Faults.{of_component}
use Rattle.huxarte_c_components.specs.Funcs.{HasFunc, HasNoFunc, HasNone, HasType}
use Rattle.huxarte_c_calls.specs.declared.nodes.HuxNode.{HuxNode}
use Rattle.huxarte_c_calls.specs.Laying.{node_by}
use Rattle.huxarte_c_calls.specs.declared.verdicts.HuxVerdict.{HuxVerdict}
use Rattle.huxarte_c_calls.specs.Verdicts.{fine}

-- why there is no layout of the type that a path leads to from a function
abbrev pub IsNoNode : FuncTy → ℕ → List ℕ → ComponentFault → Type 0
IsNoNode f way path fault.NoPart = node_by f way path ≡ None
IsNoNode f way path fault.Memory = ⊤
IsNoNode f way path _ = ⊥

-- the layout, as numbers, of the type that a path leads to from a component's function
abbrev pub IsNodeIn : Spaces → ℕ → ℕ → List ℕ → HuxNode → Type 0
IsNodeIn s func way path node =
    (f : FuncTy) × HasType s func f × (node_by f way path ≡ Some node)

-- why there is none
abbrev pub IsNoNodeIn : Spaces → ℕ → ℕ → List ℕ → ComponentFault → Type 0
IsNoNodeIn s func way path fault.NoFunc = HasNone s func
IsNoNodeIn s func way path fault.NoPart =
    (f : FuncTy) × HasType s func f × (node_by f way path ≡ None)
IsNoNodeIn s func way path fault.Memory = ⊤
IsNoNodeIn s func way path _ = ⊥

-- both, of the component of a file
abbrev pub IsNodeOf : List ℕ → ℕ → ℕ → List ℕ → HuxNode → Type 0
IsNodeOf bytes func way path node =
    (f : FuncTy) × HasFunc bytes func f × (node_by f way path ≡ Some node)

abbrev pub IsNoNodeOf : List ℕ → ℕ → ℕ → List ℕ → ComponentFault → Type 0
IsNoNodeOf bytes func way path (fault.Files f) = IsFileFault (bytes ∷ []) f
IsNoNodeOf bytes func way path fault.NoFunc = HasNoFunc bytes func
IsNoNodeOf bytes func way path fault.NoPart =
    (f : FuncTy) × HasFunc bytes func f × (node_by f way path ≡ None)
IsNoNodeOf bytes func way path fault.Memory = ⊤
IsNoNodeOf bytes func way path _ = ⊥

-- a verdict, and the numbers before and after: of what a path leads to, or unchanged by a refusal
abbrev pub IsLayoutVerdict : List ℕ → ℕ → ℕ → List ℕ → HuxVerdict → HuxNode → HuxNode → Type 0
IsLayoutVerdict bytes func way path v before after =
    (IsNodeOf bytes func way path after × (v ≡ fine))
    ⊎ ((r : ComponentFault) × IsNoNodeOf bytes func way path r × (v ≡ of_component r)
    × (after ≡ before))
