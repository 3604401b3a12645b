use Rattle.std.proofs.Common.{refl, sym, ◌∙◌}
use Rattle.cm_types_numbers.specs.Numbering.{numbering}
use Rattle.cm_match_serving.specs.Sides.{standing_of, funcs_in}
use Rattle.cm_match_serving.specs.Tables.{func_brought}
use Rattle.cm_types_arena.specs.Replaced.{replaced_func}
use Rattle.cm_match_serving.proofs.Same.{func_stays, funcs_of_pair, known_at}
use Rattle.cm_match_serving.proofs.tables.Tables.same_funcs.Goals as goal
use Rattle.cm_lemmas.proofs.Numbers.{test_tells}

pub number_func-requires : goal.number_func-requires
number_func-requires c = known_at c.args.pair.now.linking c.importer.result.linking c.args.self.now (sym c.importer.ensures.linking) c.requires

pub number_func-requires-2 : goal.number_func-requires-2
number_func-requires-2 c = known_at c.importer.result.linking c.provider.result.linking c.number_func.new.self (c.importer.ensures.linking ∙ sym c.provider.ensures.linking) c.number_func.ensures.known

pub returns-clause-same : goal.returns-clause-same
returns-clause-same c =
    let before = numbering c.number_func.new.self.numbers in
    let after = numbering c.number_func-2.new.self.numbers in
    let s = c.importer.result in
    let t = c.provider.result in
    let x = func_brought (funcs_in s) c.args.wanted in
    let y = func_brought (funcs_in t) c.args.have in
    let left = func_stays before after (λ u ts ns. c.numbers_stay.ensures.funcs before after u ts ns c.number_func-2.ensures.kept) (standing_of s) x c.in_ok-left.left c.in_ok-left.ensures.number in
    funcs_of_pair c.args.pair.now s t c.importer.ensures.linking c.importer.ensures.component c.provider.ensures.linking c.provider.ensures.component _ c.args.wanted c.args.have
    (test_tells c.in_ok-left.left c.in_ok-right.right _ _ refl (c.tell_apart.ensures.funcs (replaced_func (standing_of s) x) (replaced_func (standing_of t) y) c.in_ok-left.left c.in_ok-right.right left c.in_ok-right.ensures.number))

pub returns-clause-known : goal.returns-clause-known
returns-clause-known c = known_at c.provider.result.linking c.args.pair.now.linking c.number_func-2.new.self c.provider.ensures.linking c.number_func-2.ensures.known
