use Rattle.std.proofs.Common.{map}
use Rattle.std.specs.Option.{option_copied}
use Rattle.cm_wit_worlds.specs.InterfaceViews.{files_of}
use Rattle.cm_wit_worlds.proofs.LabelLaws.{Labelled}
use Rattle.cm_wit_worlds.proofs.directory.Directory.labels.Given as goal

abbrev pub invariant-loop-place : goal.invariant-loop-place
invariant-loop-place l = Labelled (files_of l.self.files.items) l.name l.place (map option_copied l.labels.items)
