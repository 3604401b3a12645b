use Rattle.cm_names.specs.TextTables.{texts_of}
use Rattle.cm_names.proofs.NumberLaws.{one_text}
use Rattle.cm_types_numbers.specs.declared.numbers.Numbers.{Numbers}
use Rattle.cm_types_numbers.specs.Numbering.{numbering}
use Rattle.cm_types_numbers.proofs.Tells.{IsDistinct, tells_types, tells_funcs, agrees, agree_funcs}
use Rattle.cm_types_numbers.proofs.numbers.Numbers.tell_apart.Goals as goal

-- each number of a table of the code is that of one label, and of one node
distinct : (s : Numbers) → IsDistinct (numbering s)
distinct s = record { labels = one_text (texts_of s.texts.texts); nodes = s.nodes.one_to_one.distinct }

pub returns-clause-types : goal.returns-clause-types
returns-clause-types c = tells_types (numbering c.args.self.now) (distinct c.args.self.now)

pub returns-clause-funcs : goal.returns-clause-funcs
returns-clause-funcs c = tells_funcs (numbering c.args.self.now) (distinct c.args.self.now)

pub returns-clause-places : goal.returns-clause-places
returns-clause-places c = agrees (numbering c.args.self.now) (distinct c.args.self.now)

pub returns-clause-func_places : goal.returns-clause-func_places
returns-clause-func_places c = agree_funcs (numbering c.args.self.now) (distinct c.args.self.now)
