use Rattle.std.proofs.Common.{refl, ◌∙◌, arith}
use Rattle.cm_abi_programs.specs.Coded.{check_lists, checks_in}
use Rattle.cm_abi_programs.proofs.MakingLemmas.{placed_end, placed_next}
use Rattle.cm_abi_programs.proofs.listed_checks.placed_checks.Goals as goal

pub loop-index-preserved : goal.loop-index-preserved
loop-index-preserved c =
    placed_next c.args.offsets.now c.args.lists.now c.loop-index.index _ c.index-lists-index.result (checks_in c.loop-index.all.items) (checks_in c.push_placed.new.all.items) c.loop-index-test.true (omega (arith, c.loop-index-test.true, c.requires)) refl c.index-lists-index.is c.in_ok-push_placed.ensures
    ∙ c.loop-index.invariant

pub returns : goal.returns
returns c = placed_end c.args.offsets.now (check_lists _) c.loop-index.index (checks_in c.loop-index.all.items) c.loop-index-test.false ∙ c.loop-index.invariant
