use Rattle.std.proofs.Common.{map, refl}
use Rattle.cm_validate_model.specs.Rules.{member_broken}
use Rattle.cm_validate_instances.specs.ItemSketches.{sketch_named}
use Rattle.cm_validate_instances.specs.Members.{export_sketches}
use Rattle.cm_validate_instances.proofs.NameLaws.{read_all, read_more}
use Rattle.cm_validate_instances.proofs.members.examine.Goals as goal
use Rattle.cm_validate_model.proofs.ReasonsLaws.{read_end, read_on}

pub loop-export-init : goal.loop-export-init
loop-export-init c = record { broken = λ s t. refl; sketched = λ s t. refl }

pub loop-export-preserved : goal.loop-export-preserved
loop-export-preserved c = record {
  broken = λ s t. read_on c.least_of_both.ensures (member_broken s) c.args.exports.now c.loop-export.export-index c.export-item.result c.loop-export.fault c.in_ok-fault.fault _
      c.loop-export-test.true c.export-item.is (c.in_ok-fault.ensures.broken s t) (c.loop-export.invariant.broken s t);
  sketched = λ s t. read_more (export_sketches s) c.args.exports.now c.loop-export.export-index c.export-item.result c.loop-export-test.true c.export-item.is
      (map sketch_named c.loop-export.sketches.items) (map sketch_named c.examine_one.new.sketches.items) _ (c.in_ok-fault.ensures.sketched s t) (c.loop-export.invariant.sketched s t);
}

pub returns-clause-broken : goal.returns-clause-broken
returns-clause-broken c = λ s t.
    read_end (member_broken s) c.args.exports.now c.loop-export.export-index c.loop-export.fault _ c.loop-export-test.false (c.loop-export.invariant.broken s t)

pub returns-clause-sketched : goal.returns-clause-sketched
returns-clause-sketched c = λ s t.
    read_all (export_sketches s) c.args.exports.now c.loop-export.export-index (map sketch_named c.loop-export.sketches.items) _ c.loop-export-test.false (c.loop-export.invariant.sketched s t)
