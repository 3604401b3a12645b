use Rattle.std.proofs.Common.{ap, ◌∙◌}
use Rattle.cm_hux_diff.specs.Facing.{names}
use Rattle.cm_hux_diff.proofs.links.Links.new.Goals as goal

pub returns : goal.returns
returns c = record {
  imports = c.in_ok-imports.ensures c.args.old.now.types ∙ ap names c.imports.ensures.externs;
  exports = c.in_ok-exports.ensures c.args.old.now.types ∙ ap names c.exports.ensures.externs;
  offers = c.in_ok-offers.ensures c.args.new.now.types ∙ ap names c.exports-2.ensures.externs;
}
