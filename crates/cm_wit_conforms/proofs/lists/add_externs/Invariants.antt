use Rattle.std.proofs.Common.{◌++◌, List, take}
use Rattle.cm_types_arena.specs.declared.types.Types.{Types}
use Rattle.cm_types_arena.specs.Listed.{externs_listed}
use Rattle.cm_wit_conforms.specs.Comparisons.{Entry, entries_from}
use Rattle.cm_wit_conforms.specs.Views.{other, own}
use Rattle.cm_wit_conforms.specs.Walks.{AreKept, IsWalked}
use Rattle.cm_wit_conforms.proofs.lists.add_externs.Given as goal

abbrev pub invariant-loop-place : goal.invariant-loop-place
invariant-loop-place l = ((h w : Types) (es : List Entry) → IsWalked h w es l.fn.walk → IsWalked h w (es ++ entries_from l.lists.list (externs_listed (other l.lists.list h w) (other l.lists.list l.lists.have.now l.lists.world.now)) 0 (take l.place (externs_listed (own l.lists.list h w) (own l.lists.list l.lists.have.now l.lists.world.now)))) l.walk) × AreKept l.lists.have.now l.kept
