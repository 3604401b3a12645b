use Rattle.std.proofs.Common.{◌≡◌, ◌-◌, map}
use Rattle.cm_binary_grammar.specs.Grammar.{times}
use Rattle.cm_binary_grammar.proofs.ReadingLaws.{with_front}
use Rattle.cm_binary_grammar.proofs.form.read_times.Given as goal

abbrev pub invariant-loop : goal.invariant-loop
invariant-loop g l =
    (with_front (map g.T.Form.tree l.values.items) ((times g.T.Form.grammar (l.count - l.counter)).reads l.cursor.end l.cursor.rest.now)
    ≡ (times g.T.Form.grammar l.count).reads l.initial.cursor.end l.initial.cursor.rest.now)
    × (l.cursor.end ≡ l.initial.cursor.end)
