use Rattle.std.proofs.Common.{Global, Vec, false, ap, sym, ◌∙◌}
use Rattle.cm_abi_model.specs.declared.request.Request.{Request}
use Rattle.cm_abi_model.specs.declared.region.Region.{Region}
use Rattle.cm_abi_requests.proofs.RegionWalk.{last_one, not_last}
use Rattle.cm_abi_requests.proofs.answers.part_regions.Goals as goal
use Rattle.cm_abi_requests.proofs.answers.part_regions.Goals.{then-is_last+in_ok-push, else-is_last}

abbrev none : Request
none = record { chained = false; old_size = 0; align = 0; size = 0 }

pub loop-i-preserved : goal.loop-i-preserved
loop-i-preserved c =
    elim c.if-is_last.branch [
      | then-is_last+in_ok-push w ↦
          last_one c.args.requests.now c.args.answers.now c.loop-i.i none c.loop-i.regions.items c.if-is_last.regions.items _ c.loop-i-test.true c.requires.answered (sym c.is_last.ensures ∙ w.if-is_last.true) (ap (λ (v : Vec Region Global). v.items) w.regions-is ∙ w.in_ok-push.ensures.items) c.loop-i.invariant
      | else-is_last w ↦
          not_last c.args.requests.now c.args.answers.now c.loop-i.i none c.loop-i.regions.items c.if-is_last.regions.items _ c.loop-i-test.true c.requires.answered (sym c.is_last.ensures ∙ w.if-is_last.false) (ap (λ (v : Vec Region Global). v.items) w.regions-is) c.loop-i.invariant
    ]
