use Rattle.std.proofs.Common.{◌++◌, ◌∙◌, ap, map, sym}
use Rattle.std.proofs.lemmas.Result.{on_ok_weaker}
use Rattle.cm_types_arena.specs.Listed.{desc_in}
use Rattle.cm_types_arena.specs.declared.named_externs.Desc.TheVariants as is
use Rattle.cm_hux_diff.specs.Held.{two_entries}
use Rattle.cm_hux_diff.specs.Views.{entry_view}
use Rattle.cm_hux_diff.proofs.walk.Walk.add_two.Goals as goal

pub returns-in-Func-Instance : goal.returns-in-Func-Instance
returns-in-Func-Instance c = on_ok_weaker c.add_whole-in-Func-Instance.result (λ f w o.
    let is_so = ap (λ d. two_entries c.args.place (desc_in w d) (desc_in o c.args.offered)) c.in-Func-Instance.is-0
    ∙ ap (λ d. two_entries c.args.place (desc_in w (is.Func c.in-Func-Instance.field-0-0)) (desc_in o d)) c.in-Func-Instance.is-1 in
    f w o ∙ ap (λ l. map (entry_view w o) c.args.self.now.entries.items ++ l) (sym is_so)) c.add_whole-in-Func-Instance.ensures

pub returns-in-Instance-Func : goal.returns-in-Instance-Func
returns-in-Instance-Func c = on_ok_weaker c.add_whole-in-Instance-Func.result (λ f w o.
    let is_so = ap (λ d. two_entries c.args.place (desc_in w d) (desc_in o c.args.offered)) c.in-Instance-Func.is-0
    ∙ ap (λ d. two_entries c.args.place (desc_in w (is.Instance c.in-Instance-Func.field-0-0)) (desc_in o d)) c.in-Instance-Func.is-1 in
    f w o ∙ ap (λ l. map (entry_view w o) c.args.self.now.entries.items ++ l) (sym is_so)) c.add_whole-in-Instance-Func.ensures
