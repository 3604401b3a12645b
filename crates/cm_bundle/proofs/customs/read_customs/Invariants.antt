use Rattle.std.proofs.Common.{◌≡◌, length, map}
use Rattle.cm_binary_grammar.specs.Whole.{to_end}
use Rattle.cm_binary_grammar.proofs.ReadingLaws.{with_each}
use Rattle.cm_bundle.proofs.CustomLoop.{one, same, seen}
use Rattle.cm_bundle.proofs.customs.read_customs.Given as goal
use Rattle.cm_lemmas.proofs.Lists.{IsBytes}

abbrev pub invariant-loop-cursor : goal.invariant-loop-cursor
invariant-loop-cursor l =
    (with_each (map seen l.customs.items) ((to_end one same tt).reads l.cursor.end l.cursor.rest.now) ≡ (to_end one same tt).reads l.fn.end l.fn.bytes)
    × IsBytes l.cursor.rest.now

abbrev pub decreases-loop-cursor : goal.decreases-loop-cursor
decreases-loop-cursor l = length l.cursor.rest.now
