use Rattle.std.proofs.Common.{◌∙◌, arith, ap, sym, subst}
use Rattle.cm_types.specs.Limits.{IsWithinLimits}
use Rattle.cm_types.specs.Spellable.{is_spellable}
use Rattle.cm_types_arena.proofs.ArenaLaws.{count, limits_there, spellable_there, type_of_item}
use Rattle.cm_types_arena.proofs.types.Types.tree.Goals as goal

pub invariant_of-result : goal.invariant_of-result
invariant_of-result c =
    let es = c.args.self.now.entries.items in
    let same = c.in_ok-root.ensures ∙ type_of_item es c.args.place c.index.result.now (omega (arith, c.requires, count es)) c.index.ensures in
    record {
      within_limits = subst IsWithinLimits (sym same) (limits_there es c.args.place c.args.self.now.arena c.requires);
      spellable = ap is_spellable same ∙ spellable_there es c.args.place c.args.self.now.arena c.requires;
    }
