-- The laws of gates, and of what stands behind them.
use Rattle.std.proofs.Common.{◌≡◌, Bool, List, Option, Some, None, Ok, ap, inl, inr}
use Rattle.cm_wit_tokens.specs.declared.operator.Operator.TheVariants as operator
use Rattle.cm_wit_tokens.specs.declared.token.Token.{Token}
use Rattle.cm_wit_tokens.specs.Exact.{Lawful, Shortens}
use Rattle.cm_wit_tokens.specs.Faults.{Fault}
use Rattle.cm_wit_tokens.specs.Forms.{is_operator}
use Rattle.cm_wit_tokens.specs.Grammar.{first, passes, Grammar, done, ◌>>=◌, token}
use Rattle.cm_wit_tokens.specs.Parts.{expect, version_of}
use Rattle.cm_wit_tokens.proofs.Laws.{done_lawful, bind_lawful, token_lawful, chosen_lawful, if_ok}
use Rattle.cm_wit_tokens.proofs.ListLaws.{expect_lawful, token_shortens_all}
use Rattle.cm_wit_tokens.proofs.StepLaws.{Moves, steps_lawful}
use Rattle.cm_wit_reading.proofs.InterfaceLaws.{name_lawful}
use Rattle.cm_lemmas.proofs.Equations.{ok_is}
use Rattle.cm_lemmas.proofs.Results.{ok_of}
use Rattle.cm_wit_projects_reading.specs.declared.heads.GateHead.{GateHead}
use Rattle.cm_wit_projects_reading.specs.declared.heads.GateHead.TheVariants as gate_is
use Rattle.cm_wit_projects_reading.specs.Gates.{named_field, version_field, feature_field, gate_rest, gate, next_gate, gates, some_gate, with_gates, behind_gates, gated}
use Rattle.cm_wit_projects_reading.specs.Heads.{gate_head}
use Rattle.cm_wit_projects_reading.specs.LeftOut.{placed}
use Rattle.cm_wit_projects_reading.specs.Trees.{Gate, Placed}
use Rattle.cm_wit_projects_reading.proofs.PlaceLaws.{placed_lawful, placed_shortens, first_shortens, later_shortens}

named_field_lawful : (name : List _) → Lawful (named_field name)
named_field_lawful name = bind_lawful _ _ (token_lawful _) (λ _. expect_lawful operator.Equals)

version_field_lawful : Lawful version_field
version_field_lawful = bind_lawful _ _ (named_field_lawful _) (λ _. token_lawful version_of)

feature_field_lawful : Lawful feature_field
feature_field_lawful = bind_lawful _ _ (named_field_lawful _) (λ _. name_lawful)

gate_rest_lawful : (h : GateHead) → Lawful (gate_rest h)
gate_rest_lawful gate_is.Since = bind_lawful _ _ version_field_lawful (λ v. done_lawful _)
gate_rest_lawful gate_is.Unstable = bind_lawful _ _ feature_field_lawful (λ name. done_lawful _)
gate_rest_lawful gate_is.Deprecated = bind_lawful _ _ version_field_lawful (λ v. done_lawful _)

-- what stands behind an `@`
abbrev behind_at : Grammar Gate
behind_at = token gate_head >>= λ h. expect operator.LeftParenthesis >>= λ _. gate_rest h >>= λ x. expect operator.RightParenthesis >>= λ _. done x

behind_at_lawful : Lawful behind_at
behind_at_lawful = bind_lawful _ _ (token_lawful _) (λ h. bind_lawful _ _ (expect_lawful operator.LeftParenthesis) (λ _. bind_lawful _ _ (gate_rest_lawful h) (λ x. bind_lawful _ _ (expect_lawful operator.RightParenthesis) (λ _. done_lawful x))))

gate_lawful : Lawful gate
gate_lawful = bind_lawful _ _ (expect_lawful operator.At) (λ _. behind_at_lawful)

gate_shortens : Shortens gate
gate_shortens = token_shortens_all _ (λ _. behind_at) (λ _. behind_at_lawful)

abbrev some_placed : Grammar (Option (Placed Gate))
some_placed = placed gate >>= λ x. done (Some x)

next_gate_lawful : Lawful next_gate
next_gate_lawful = chosen_lawful _ _ _ (bind_lawful _ _ (placed_lawful gate gate_lawful) (λ x. done_lawful (Some x))) (done_lawful None)

abbrev no_gate : Option (Placed Gate)
no_gate = None

none_is_no_some : (ts rest : List Token) (x : Placed Gate) → ok_of {A = Option (Placed Gate) × List Token} Fault (no_gate, ts) ≡ Ok (Some x, rest) → ⊥
none_is_no_some ts rest x e =
    let q = ok_is {A = Option (Placed Gate) × List Token} Fault (no_gate, ts) (Some x, rest) e in
    let h : no_gate ≡ Some x = ap (λ (z : Option (Placed Gate) × List Token). z.0) q in
    absurd cc

pub next_gate_moves : Moves next_gate
next_gate_moves ts x rest e =
    elim (if_ok (passes (is_operator operator.At) (first ts)) (some_placed.reads ts) (Ok (no_gate, ts)) (Ok (Some x, rest)) e) [
      | inl p ↦ first_shortens (placed gate) (λ y. done (Some y)) (placed_shortens gate gate_shortens) (λ y. done_lawful (Some y)) ts (Some x) rest p.1
      | inr p ↦ absurd (none_is_no_some ts rest x p.1)
    ]

gates_lawful : Lawful gates
gates_lawful = steps_lawful next_gate next_gate_lawful next_gate_moves

pub gated_lawful : {A : Type 0} (h : Bool → Grammar A) → ((b : Bool) → Lawful (h b)) → Lawful (gated h)
gated_lawful h l = bind_lawful gates (λ gs. behind_gates h gs) gates_lawful (λ gs. bind_lawful (placed (h (some_gate gs))) (λ x. done (with_gates gs x)) (placed_lawful (h (some_gate gs)) (l (some_gate gs))) (λ x. done_lawful (with_gates gs x)))

behind_gates_shortens : {A : Type 0} (h : Bool → Grammar A) → ((b : Bool) → Shortens (h b)) → (gs : List (Placed Gate)) → Shortens (behind_gates h gs)
behind_gates_shortens h s gs = first_shortens (placed (h (some_gate gs))) (λ x. done (with_gates gs x)) (placed_shortens (h (some_gate gs)) (s (some_gate gs))) (λ x. done_lawful (with_gates gs x))

pub gated_shortens : {A : Type 0} (h : Bool → Grammar A) → ((b : Bool) → Shortens (h b)) → Shortens (gated h)
gated_shortens h s = later_shortens gates (λ gs. behind_gates h gs) gates_lawful (behind_gates_shortens h s)
