use Rattle.std.proofs.Common.{map}
use Rattle.std.specs.Option.{option_copied}
use Rattle.cm_wit_reading.specs.Views.{file_tree}
use Rattle.cm_wit_worlds.proofs.LabelLaws.{labelled_all, labelled_push}
use Rattle.cm_wit_worlds.proofs.directory.Directory.labels.Goals as goal

pub loop-place-preserved : goal.loop-place-preserved
loop-place-preserved c =
    labelled_push (λ f. file_tree f.now) c.deref-file-items.result.now c.args.self.now.files.items c.args.name.now c.loop-place.place c.file-item.result c.loop-place.labels.items c.push.new.self.items c.in_ok-label_at.field-0 c.deref-file-items.ensures.value c.loop-place-test.true c.file-item.is c.in_ok-push.ensures.items c.in_ok-label_at.ensures c.loop-place.invariant

pub returns : goal.returns
returns c =
    labelled_all (λ f. file_tree f.now) c.deref-file-items.result.now c.args.self.now.files.items c.args.name.now c.loop-place.place (map option_copied c.loop-place.labels.items) c.deref-file-items.ensures.value c.loop-place-test.false c.loop-place.invariant
