use Rattle.std.proofs.Common.{◌≡◌, [], sym, ◌∙◌}
use Rattle.cm_binary.specs.declared.front.Next.TheVariants as nexts
use Rattle.cm_binary.specs.Views.{progress}
use Rattle.cm_binary.proofs.PieceLaws.{after_ok, after_err, held_within, held_holds}
use Rattle.cm_binary.proofs.decoder.Decoder.finish.Goals as goal

pub component_within_limits-requires-clause-limits : goal.component_within_limits-requires-clause-limits
component_within_limits-requires-clause-limits c =
    let d = c.self.inside in
    held_within (record { read = progress d.front; kept = d.kept.items; fault = d.fault }) c.in_default.is c.self.invariant (c.may_end.ensures.0 c.if-may_end.true).0

pub component_within_limits-requires-clause-parts : goal.component_within_limits-requires-clause-parts
component_within_limits-requires-clause-parts c =
    let d = c.self.inside in
    held_holds (record { read = progress d.front; kept = d.kept.items; fault = d.fault }) c.in_default.is c.self.invariant (c.may_end.ensures.0 c.if-may_end.true).0

pub returns-then-may_end : goal.returns-then-may_end
returns-then-may_end c =
    let d = c.self.inside in
    let whole = c.may_end.ensures.0 c.if-may_end.true in
    rw (← c.self.view_is) (after_ok (record { read = progress d.front; kept = d.kept.items; fault = d.fault }) c.component_within_limits.result c.in_default.is c.self.invariant whole.0 (sym c.deref.ensures.value ∙ whole.1) c.component_within_limits.ensures)

pub returns : goal.returns
returns c =
    let d = c.self.inside in
    let more = λ (h : (d.front.next ≡ nexts.Section) × (d.kept.items ≡ [])). let whole = c.may_end.ensures.1 (h.0, c.deref.ensures.value ∙ h.1) in let part = c.if-may_end.false in absurd {A = ⊥} cc in
    rw (c.len.ensures, d.kept.ok.0, ← c.self.view_is) (after_err (record { read = progress d.front; kept = d.kept.items; fault = d.fault }) c.in_default.is c.self.invariant more)
