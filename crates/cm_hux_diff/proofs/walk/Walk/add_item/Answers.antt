use Rattle.std.proofs.Common.{◌++◌, ◌∙◌, ap, append-nil, map, sym}
use Rattle.std.specs.Option.{option_map}
use Rattle.std.specs.Prelude.{option_to_list}
use Rattle.cm_hux_diff.specs.Views.{entry_view}
use Rattle.cm_hux_diff.proofs.walk.Walk.add_item.Goals as goal

pub returns-in-None : goal.returns-in-None
returns-in-None c = λ w o.
    let shown = map (entry_view w o) c.args.self.now.entries.items in
    sym (append-nil shown)
    ∙ ap (λ es. shown ++ option_to_list es) (ap (option_map (entry_view w o)) (sym c.in-None.is) ∙ c.entry_at.ensures w o)
