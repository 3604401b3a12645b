use Rattle.std.proofs.Common.{◌≡◌, List, length}
use Rattle.cm_types_arena.specs.declared.types.Types.{Types}
use Rattle.cm_wit_conforms.specs.Known.{places_in}
use Rattle.cm_wit_conforms.specs.Comparisons.{Entry}
use Rattle.cm_wit_conforms.specs.Pairs.{HaveBoth}
use Rattle.cm_wit_conforms.specs.Walks.{facing_entries}
use Rattle.cm_wit_conforms.proofs.NoteLaws.{BothNoting}
use Rattle.cm_wit_conforms.proofs.walk.note_met.Given as goal

abbrev pub invariant-loop-place : goal.invariant-loop-place
invariant-loop-place l = (h w : Types) (es : List Entry) → l.count ≡ length es → HaveBoth es l.fn.pairs → BothNoting es (facing_entries h w l.facing) (places_in l.meeting) l.place-index l.pairs
