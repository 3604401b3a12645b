use Rattle.std.proofs.Common.{sym, subst}
use Rattle.std.specs.List.{AllByRecursion}
use Rattle.cm_match_model.specs.Imports.{import_at}
use Rattle.cm_match_serving.specs.Answers.{JudgesImport}
use Rattle.cm_match_serving.specs.Linkings.{components_in, set_in}
use Rattle.cm_match.specs.Pairs.{IsPairOf, IsServedPair}
use Rattle.cm_match.proofs.PairLaws.{found, noted, now_served, put, served_again}
use Rattle.cm_match.proofs.judged.Judged.import_fault.Goals as goal
use Rattle.cm_lemmas.proofs.Options.{is_none_by}

pub returns-then-is_served-clause-fault : goal.returns-then-is_served-clause-fault
returns-then-is_served-clause-fault c = λ x there.
    let w = c.args.self.now in
    let set = set_in c.args.linking.now in
    let p = noted w c.pair-pair.result (IsPairOf set w.shared.items c.args.component c.args.import) (c.is_served.ensures c.if-is_served.true) c.pair-pair.ensures in
    served_again c.resources_are_counted.ensures.whole c.moves_of_what_is_counted.ensures.types c.moves_of_what_is_counted.ensures.funcs c.imports_are_served_alike.ensures.served
    (components_in c.args.linking.now) set.sees w.shared.items c.requires.tables c.args.component p.0 c.args.import x
    (found (IsServedPair set w.shared.items) p.0 w.served.keys p.1 c.requires.served) p.2 there

pub returns-in_ok-insert-clause-known : goal.returns-in_ok-insert-clause-known
returns-in_ok-insert-clause-known c =
    let w = c.args.self.now in
    let set = set_in c.args.linking.now in
    let none = is_none_by c.in_ok-fault.fault c.is_none.result c.is_none.ensures c.if-is_none.true in
    let one : IsServedPair set w.shared.items c.in-Some.pair =
    now_served set w.shared.items c.args.component c.args.import c.in-Some.pair c.in-Some.ensures
    (λ x there. subst (JudgesImport set (import_at c.args.component c.args.import x)) none (c.in_ok-fault.ensures.fault x there)) in
    record {
      known = c.in_ok-fault.ensures.known;
      tables = c.requires.tables;
      served = subst (AllByRecursion (IsServedPair set w.shared.items)) (sym c.in_ok-insert.ensures.keys) (put (IsServedPair set w.shared.items) c.in-Some.pair w.served.keys c.requires.served one);
    }
