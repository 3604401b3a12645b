use Rattle.std.proofs.Common.{false, true}
use Rattle.cm_wit_worlds.specs.Interfaces.{is_world}
use Rattle.cm_wit_worlds.specs.InterfaceViews.{files_of, placed_world}
use Rattle.cm_wit_worlds.proofs.KeyingLaws.{looks_here, looks_on}
use Rattle.cm_wit_worlds.proofs.LabelLaws.{label_test}
use Rattle.cm_wit_worlds.proofs.directory.Directory.world_at.Goals as goal

pub returns-then-has_label : goal.returns-then-has_label
returns-then-has_label c =
    let x = c.index-worlds-number.result in
    let is = label_test (files_of c.args.self.now.files.items) c.args.name.now c.in_ok-labels.labels.items c.deref.result.now placed_world c.args.worlds.now c.requires c.in_ok-labels.ensures c.deref.ensures.value c.loop-number.number x c.has_label.result true c.loop-number-test.true c.index-worlds-number.is c.has_label.ensures c.if-has_label.true in
    looks_here placed_world (is_world (files_of c.args.self.now.files.items) c.args.name.now) c.args.worlds.now c.loop-number.number x c.loop-number-test.true c.index-worlds-number.is is c.loop-number.invariant

pub loop-number-preserved : goal.loop-number-preserved
loop-number-preserved c =
    let x = c.index-worlds-number.result in
    let is = label_test (files_of c.args.self.now.files.items) c.args.name.now c.in_ok-labels.labels.items c.deref.result.now placed_world c.args.worlds.now c.requires c.in_ok-labels.ensures c.deref.ensures.value c.loop-number.number x c.has_label.result false c.loop-number-test.true c.index-worlds-number.is c.has_label.ensures c.if-has_label.false in
    looks_on placed_world (is_world (files_of c.args.self.now.files.items) c.args.name.now) c.args.worlds.now c.loop-number.number x c.loop-number-test.true c.index-worlds-number.is is c.loop-number.invariant
