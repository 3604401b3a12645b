use Rattle.std.proofs.Common.{refl, inl, inr}
use Rattle.cm_types.specs.ExternNames.{is_version}
use Rattle.cm_types.proofs.version.reads_as_version.Goals as goal
use Rattle.cm_types.proofs.version.reads_as_version.Goals.{in-Ok, in-Err, in-Err-2}

pub returns : goal.returns
unfolding is_version
returns c = elim c.match-parse.branch [
  | in-Ok w ↦ rw w.result-is (rw w.in-Ok.ensures.ok refl)
  | in-Err w ↦ rw w.result-is tt
  | in-Err-2 w ↦ rw w.result-is (elim w.in-Err.ensures.err [ inl m ↦ let h = w.if-is_want_of_memory.ensures m in cc | inr v ↦ rw v refl ])
]
