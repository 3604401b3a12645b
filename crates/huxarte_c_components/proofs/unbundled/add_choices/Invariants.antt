use Rattle.std.proofs.Common.{◌≡◌, ◌++◌, take}
use Rattle.cm_match_serving.specs.Candidates.{each_from}
use Rattle.huxarte_c_components.specs.Unbundling.{choice_of}
use Rattle.huxarte_c_components.proofs.unbundled.add_choices.Given as goal

-- the choices of the links so far
abbrev pub invariant-loop-import_at : goal.invariant-loop-import_at
invariant-loop-import_at l = l.choices.items ≡ l.initial.choices.items ++ each_from (choice_of l.importer) 0 (take l.import_at l.row)
