-- Gates, and what stands behind them (WIT.md, "Feature Gates").
use Rattle.std.specs.Prelude.{ℕ, ◌==◌, Bool, not, List, Option, Some, None, codes, length}
use Rattle.cm_wit_tokens.specs.declared.operator.Operator.TheVariants as operator
use Rattle.cm_wit_tokens.specs.Forms.{is_operator}
use Rattle.cm_wit_tokens.specs.Grammar.{Grammar, done, ◌>>=◌, token, chosen, steps}
use Rattle.cm_wit_tokens.specs.Parts.{expect, identifier, version_of}
use Rattle.cm_wit_projects_reading.specs.declared.heads.GateHead.{GateHead}
use Rattle.cm_wit_projects_reading.specs.declared.heads.GateHead.TheVariants as gate_is
use Rattle.cm_wit_projects_reading.specs.Heads.{field, gate_head}
use Rattle.cm_wit_projects_reading.specs.LeftOut.{placed}
use Rattle.cm_wit_projects_reading.specs.Trees.{Gate, since, unstable, deprecated, Placed, Gated}

-- field `=`
abbrev pub named_field : List ℕ → Grammar (Unit {0})
named_field name = token (field name) >>= λ _. expect operator.Equals

-- what a gate has in its parentheses
abbrev pub version_field : Grammar (List ℕ)
version_field = named_field (codes "version") >>= λ _. token version_of

abbrev pub feature_field : Grammar (List ℕ)
feature_field = named_field (codes "feature") >>= λ _. identifier

abbrev pub gate_rest : GateHead → Grammar Gate
gate_rest gate_is.Since = version_field >>= λ v. done (since v)
gate_rest gate_is.Unstable = feature_field >>= λ name. done (unstable name)
gate_rest gate_is.Deprecated = version_field >>= λ v. done (deprecated v)

-- `@` word `(` field `=` value `)`
abbrev pub gate : Grammar Gate
gate =
    expect operator.At >>= λ _. token gate_head >>= λ h. expect operator.LeftParenthesis >>= λ _.
    gate_rest h >>= λ x. expect operator.RightParenthesis >>= λ _. done x

-- {gate}
abbrev pub next_gate : Grammar (Option (Placed Gate))
next_gate =
    chosen (is_operator operator.At) (placed gate >>= λ x. done (Some x)) (done None)

abbrev pub gates : Grammar (List (Placed Gate))
gates = steps next_gate

-- whether there are some
abbrev pub some_gate : List (Placed Gate) → Bool
some_gate gs = not (length gs == 0)

abbrev pub with_gates : {A : Type 0} → List (Placed Gate) → Placed A → Gated A
with_gates gs x = record { gates = gs; item = x }

-- behind gates, a thing, which may depend on whether there are some
abbrev pub behind_gates : {A : Type 0} →
    (Bool → Grammar A) → List (Placed Gate) → Grammar (Gated A)
behind_gates h gs = placed (h (some_gate gs)) >>= λ x. done (with_gates gs x)

-- gates, and a thing
abbrev pub gated : {A : Type 0} → (Bool → Grammar A) → Grammar (Gated A)
gated h = gates >>= λ gs. behind_gates h gs
