use Rattle.std.proofs.Common.{rules, sym}
use Rattle.std.proofs.lemmas.List.Folds.{list_all-map, list_all_at}
use Rattle.cm_binary_model.specs.Trees.{section_tree}
use Rattle.cm_binary_model.specs.Limits.{has_preamble}
use Rattle.cm_binary_model.proofs.component.have_preambles.Goals as goal

pub returns-then-not-has_preamble : goal.returns-then-not-has_preamble
returns-then-not-has_preamble c =
    rw (list_all-map has_preamble section_tree c.args.sections.now)
    (sym (list_all_at (λ s. has_preamble (section_tree s)) c.args.sections.now c.loop-section.section-index c.section-item.result c.loop-section-test.true (rw (sym c.section-item.is) (search rules))))
