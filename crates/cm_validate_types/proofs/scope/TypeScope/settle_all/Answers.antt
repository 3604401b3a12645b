use Rattle.std.proofs.Common.{◌∙◌, take}
use Rattle.cm_validate_types.proofs.GrowLaws.{grown_on}
use Rattle.cm_validate_types.proofs.MovedLaws.{all_still}
use Rattle.cm_validate_types.proofs.SettledLaws.{one_more_settled}
use Rattle.cm_validate_types.proofs.StayLaws.{stays_on}
use Rattle.cm_validate_types.proofs.scope.TypeScope.settle_all.Goals as goal

pub loop-ty-preserved : goal.loop-ty-preserved
loop-ty-preserved c =
    let old = c.loop-ty.self in
    let new = c.settle.new.self in
    record {
      settled = one_more_settled new.own.entries.items c.args.uses.now c.loop-ty.ty-index _ c.loop-ty-test.true
          (all_still old.own.entries.items new.own.entries.items c.settle.ensures.others (take c.loop-ty.ty-index c.args.uses.now) c.loop-ty.invariant.settled)
          c.in_ok-settle.ensures.settled;
      own = c.settle.ensures.own ∙ c.loop-ty.invariant.own;
      around = c.settle.ensures.around ∙ c.loop-ty.invariant.around;
      grown = grown_on c.args.self.now old new c.loop-ty.invariant.grown c.settle.ensures.grown;
      stays = stays_on c.args.self.now old new c.loop-ty.invariant.stays c.settle.ensures.stays;
    }

pub returns-in_err-settle-clause-stays : goal.returns-in_err-settle-clause-stays
returns-in_err-settle-clause-stays c = stays_on c.args.self.now c.loop-ty.self c.settle.new.self c.loop-ty.invariant.stays c.settle.ensures.stays
