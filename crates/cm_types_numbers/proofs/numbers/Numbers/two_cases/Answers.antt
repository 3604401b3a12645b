use Rattle.std.proofs.Common.{◌≡◌}
use Rattle.cm_types_numbers.specs.Numbering.{numbering}
use Rattle.cm_types_numbers.proofs.Stays.{extends_on}
use Rattle.cm_types_numbers.proofs.Steps.{has_stays}
use Rattle.cm_types.specs.Types.{no_cases}
use Rattle.cm_types.specs.TypeTrees.{case_before}
use Rattle.cm_types_numbers.proofs.numbers.Numbers.two_cases.Goals as goal
use Rattle.cm_lemmas.proofs.Results.{if_ok_more}

pub returns-clause-number : goal.returns-clause-number
returns-clause-number c = if_ok_more c.case-2.result _ _ c.case-2.ensures.number (λ n made x y has_x has_y.
    let in_node = has_stays (numbering c.args.self.now) (numbering c.node.new.self) c.node.ensures.kept y c.args.second_payload has_y in
    let kept = extends_on (numbering c.args.self.now) (numbering c.node.new.self) (numbering c.case.new.self) c.node.ensures.kept c.case.ensures.kept in
    made x (case_before c.args.second.now y no_cases) (has_stays (numbering c.args.self.now) (numbering c.case.new.self) kept x c.args.first_payload has_x) (c.in_ok-others.ensures.number y no_cases in_node c.in_ok-none.ensures.number))
