use Rattle.std.proofs.Common.{refl, ap, ◌∙◌, arith}
use Rattle.cm_abi_programs.specs.CodedPuts.{put_lists, puts_in}
use Rattle.cm_abi_programs.proofs.PutMakingLemmas.{placed_end, placed_next}
use Rattle.cm_abi_programs.proofs.listed_puts.placed_puts.Goals as goal

pub loop-index-preserved : goal.loop-index-preserved
loop-index-preserved c =
    placed_next c.args.offsets.now c.args.lists.now c.loop-index.index _ c.index-lists-index.result (puts_in c.loop-index.all.items) (puts_in c.push_placed.new.all.items) c.loop-index-test.true (omega (arith, c.loop-index-test.true, c.requires)) refl c.index-lists-index.is c.in_ok-push_placed.ensures
    ∙ c.loop-index.invariant

pub returns : goal.returns
returns c =
    ap puts_in c.shrink_to_fit.ensures.items
    ∙ (placed_end c.args.offsets.now (put_lists _) c.loop-index.index (puts_in c.loop-index.all.items) c.loop-index-test.false ∙ c.loop-index.invariant)
