use Rattle.std.proofs.Common.{◌≡◌, drop}
use Rattle.cm_types.specs.Names.{is_label}
use Rattle.cm_types.specs.LabelWalks.{is_rest}
use Rattle.cm_types.proofs.label_walk.is_label.Given as goal

-- what is left may follow where the whole text is a label
abbrev pub invariant-loop-byte : goal.invariant-loop-byte
invariant-loop-byte l = is_rest l.place (drop l.byte-index l.text) ≡ is_label l.text
