use Rattle.std.proofs.Common.{◌≡◌, ℕ, true, length, sym, ap, subst, ◌∙◌}
use Rattle.cm_machine_model.specs.Plan.{Plan}
use Rattle.cm_machine_model.specs.State.{State, are_page_counts, fresh_state}
use Rattle.cm_machine_model.specs.Valid.{IsValidState}
use Rattle.cm_machine_parts.specs.States.{state_of}
use Rattle.cm_match.specs.Linked.{components_in}
use Rattle.cm_machine_set.proofs.set.set_of.Goals as goal
use Rattle.cm_match_serving.proofs.Judging.{set_length}

pub invariant_of-result : goal.invariant_of-result
invariant_of-result c =
    let p = c.in_ok-links.ensures in
    let plan : Plan = p.0 in
    let count : length plan ≡ length c.components.result.now = p.1.instances ∙ set_length (components_in c.args.linked.now) ∙ ap length (sym c.components.ensures.components) in
    let fits : are_page_counts (length plan) c.args.pages.now ≡ true = ap (λ (n : ℕ). are_page_counts n c.args.pages.now) p.1.instances ∙ c.requires in
    let fresh : state_of c.in_ok-state.state ≡ fresh_state (length plan) c.args.pages.now = c.in_ok-state.ensures.fresh ∙ ap (λ (n : ℕ). fresh_state n c.args.pages.now) (sym count) in
    (plan, p.3, record { valid = subst (λ (s : State). IsValidState plan s) (sym fresh) (c.machine_starts_valid.ensures.fresh plan c.args.pages.now p.2 fits); kept = c.in_ok-state.ensures.kept plan })

pub returns : goal.returns
returns c =
    let p = c.in_ok-links.ensures in
    let plan : Plan = p.0 in
    let count : length plan ≡ length c.components.result.now = p.1.instances ∙ set_length (components_in c.args.linked.now) ∙ ap length (sym c.components.ensures.components) in
    let fits : are_page_counts (length plan) c.args.pages.now ≡ true = ap (λ (n : ℕ). are_page_counts n c.args.pages.now) p.1.instances ∙ c.requires in
    let fresh : state_of c.in_ok-state.state ≡ fresh_state (length plan) c.args.pages.now = c.in_ok-state.ensures.fresh ∙ ap (λ (n : ℕ). fresh_state n c.args.pages.now) (sym count) in
    record { plan = plan; of_linked = p.1; planned = p.3; history = record { linked = p.2; pages_fit = fits; history = fresh } }
