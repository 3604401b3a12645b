use Rattle.std.proofs.Common.{◌∙◌, sym, subst, vec_len}
use Rattle.cm_wit_graph.specs.Walks.{standing, entries_of, IsOpenNeed}
use Rattle.cm_wit_graph.proofs.WaitLaws.{row_read}
use Rattle.cm_wit_graph.proofs.StandLaws.{OpensAt, read_settled, opens_at, none_opens, need_listed, wait_stands, wait_goes, wait_settled}
use Rattle.cm_wit_graph.proofs.walk.Walk.settle.Goals as goal

pub returns-then-index-clause-settled : goal.returns-then-index-clause-settled
returns-then-index-clause-settled c = read_settled (standing c.args.self.now) c.requires.stands c.args.node c.index.result.now c.requires.node c.index.ensures c.if-index.true

opened : (c : goal.After-wait_for-arg-1) → OpensAt (standing c.args.self.now) c.args.node c.args.from c.in-Some.place c.in-Some.need
opened c =
    opens_at (standing c.args.self.now) c.args.node c.args.from c.in-Some.place c.in-Some.need c.deref.result.now c.deref-2.result.now
    (c.deref.ensures.value ∙ sym (row_read c.args.self.now.rows.now c.args.node c.index-self-node.result c.requires.node))
    c.deref-2.ensures.value
    (subst (λ o. IsOpenNeed c.deref.result.now c.args.from c.deref-2.result.now o) c.in-Some.is c.open_need.ensures)

pub wait_for-requires : goal.wait_for-requires
wait_for-requires c = need_listed (standing c.args.self.now) c.args.node c.args.from c.in-Some.place c.in-Some.need c.requires.stands (opened c)

pub place-requires-clause-met : goal.place-requires-clause-met
place-requires-clause-met c =
    none_opens (standing c.args.self.now) c.args.node c.args.from c.deref.result.now c.deref-2.result.now c.requires.stands c.requires.met
    (c.deref.ensures.value ∙ sym (row_read c.args.self.now.rows.now c.args.node c.index-self-node.result c.requires.node))
    c.deref-2.ensures.value
    (subst (λ o. IsOpenNeed c.deref.result.now c.args.from c.deref-2.result.now o) c.in-None.is c.open_need.ensures)

opened_there : (c : goal.In_ok-wait_for-in-Some) → OpensAt (standing c.args.self.now) c.args.node c.args.from c.in-Some.place c.in-Some.need
opened_there c =
    opens_at (standing c.args.self.now) c.args.node c.args.from c.in-Some.place c.in-Some.need c.deref.result.now c.deref-2.result.now
    (c.deref.ensures.value ∙ sym (row_read c.args.self.now.rows.now c.args.node c.index-self-node.result c.requires.node))
    c.deref-2.ensures.value
    (subst (λ o. IsOpenNeed c.deref.result.now c.args.from c.deref-2.result.now o) c.in-Some.is c.open_need.ensures)

pub returns-in_ok-wait_for-in-Some-clause-stands : goal.returns-in_ok-wait_for-in-Some-clause-stands
returns-in_ok-wait_for-in-Some-clause-stands c =
    let at = opened_there c in
    wait_stands (standing c.args.self.now) c.args.node c.args.from c.in-Some.place c.in-Some.need (entries_of c.wait_for.new.waiting.items) c.requires.stands c.requires.node c.requires.met at.in_row at.is at.unmarked at.between c.in_ok-wait_for-in-Some.ensures.here c.in_ok-wait_for-in-Some.ensures.others (vec_len c.wait_for.new.waiting) c.in_ok-wait_for-in-Some.ensures.len

pub returns-in_ok-wait_for-in-Some-clause-goes : goal.returns-in_ok-wait_for-in-Some-clause-goes
returns-in_ok-wait_for-in-Some-clause-goes c =
    let at = opened_there c in
    wait_goes (standing c.args.self.now) c.args.node c.args.from c.in-Some.place c.in-Some.need (entries_of c.wait_for.new.waiting.items) c.requires.stands c.requires.node c.requires.met at.in_row at.is at.unmarked at.between c.in_ok-wait_for-in-Some.ensures.here c.in_ok-wait_for-in-Some.ensures.others (vec_len c.wait_for.new.waiting) c.in_ok-wait_for-in-Some.ensures.len

pub returns-in_ok-wait_for-in-Some-clause-settled : goal.returns-in_ok-wait_for-in-Some-clause-settled
returns-in_ok-wait_for-in-Some-clause-settled c =
    let at = opened_there c in
    wait_settled (standing c.args.self.now) c.args.node c.args.from c.in-Some.place c.in-Some.need (entries_of c.wait_for.new.waiting.items) c.requires.stands c.requires.node c.requires.met at.in_row at.is at.unmarked at.between c.in_ok-wait_for-in-Some.ensures.here c.in_ok-wait_for-in-Some.ensures.others (vec_len c.wait_for.new.waiting) c.in_ok-wait_for-in-Some.ensures.len
