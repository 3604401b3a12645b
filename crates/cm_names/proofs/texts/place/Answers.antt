use Rattle.std.proofs.Common.{ℕ, sym, subst}
use Rattle.std.proofs.lemmas.Result.{on_err_weaker, on_ok_weaker}
use Rattle.cm_names.specs.Finding.{IsFound}
use Rattle.cm_names.specs.MarkedTexts.{PutsLast}
use Rattle.cm_names.proofs.TextLaws.{table_aside, table_kept, table_marked}
use Rattle.cm_names.proofs.texts.place.Goals as goal

pub returns-then-put-clause-placed : goal.returns-then-put-clause-placed
returns-then-put-clause-placed c = λ ts long t.
    table_marked c.args.marks.now.items c.put.new.marks.items ts c.args.rest.now c.args.text.now c.put.ensures.kept (subst (λ (n : ℕ). IsFound c.put.new.marks.items c.args.text.now n) (sym long) (c.put.ensures.found c.if-put.true)) t

pub returns-clause-placed : goal.returns-clause-placed
returns-clause-placed c =
    on_ok_weaker c.put_aside.result (λ p ts long t. table_aside c.args.marks.now.items c.put.new.marks.items ts c.args.rest.now c.put_aside.new.rest c.args.text.now c.put.ensures.kept (subst (λ (n : ℕ). PutsLast c.args.text.now n c.args.rest.now c.put_aside.new.rest) (sym long) p) t) c.put_aside.ensures.put

pub returns-clause-kept : goal.returns-clause-kept
returns-clause-kept c =
    on_err_weaker c.put_aside.result (λ k ts t. table_kept c.args.marks.now.items c.put.new.marks.items ts c.args.rest.now c.put_aside.new.rest (λ u. c.put.ensures.kept ts u) k t) c.put_aside.ensures.kept
