use Rattle.std.proofs.Common.{◌≡◌, ◌≤◌, List, ℕ, Option}
use Rattle.std.specs.Option.{option_map}
use Rattle.cm_types.specs.Types.{Ty, CasesKind, Cases, cases, no_cases}
use Rattle.cm_types.specs.TypeTrees.{case_before}
use Rattle.cm_types.specs.Limits.{nodes_of_cases}
use Rattle.cm_types.specs.declared.limits.TheConstants.{MAX_NODES}
use Rattle.cm_layout.specs.Shapes.{layout_at}
use Rattle.cm_layout.specs.Layouts.{IsLayingCases, layout_of, payload_of}
use Rattle.std.proofs.lemmas.Result.{IfOk-weaker}
use Rattle.cm_layout_placed.proofs.nodes.two_cases.Goals as goal

pub finish-requires : goal.finish-requires
finish-requires c =
    let r = c.requires.within in
    let all = case_before r.0 r.2 (case_before r.1 r.3 no_cases) in
    let rest = case_before r.1 r.3 no_cases in
    let none = c.in_ok-builder.ensures all r.4 in
    let one = c.in_ok-push.ensures.ok all rest r.0 r.2 none r.5 in
    (all, c.in_ok-push-2.ensures.ok all no_cases r.1 r.3 one r.6)

pub returns : goal.returns
returns c =
    IfOk-weaker c.finish.result
    (λ x. (k : CasesKind) (all : Cases) → IsLayingCases all no_cases c.push-2.new.self → layout_of x ≡ layout_at (cases k all))
    (λ x. (k : CasesKind) (l m : List ℕ) (p q : Option Ty) → nodes_of_cases (case_before l p (case_before m q no_cases)) ≤ MAX_NODES
    → payload_of c.args.first ≡ option_map layout_at p → payload_of c.args.second ≡ option_map layout_at q → layout_of x ≡ layout_at (cases k (case_before l p (case_before m q no_cases))))
    (λ x f k l m p q few e g.
    let all = case_before l p (case_before m q no_cases) in
    let rest = case_before m q no_cases in
    let none = c.in_ok-builder.ensures all few in
    let one = c.in_ok-push.ensures.ok all rest l p none e in
    f k all (c.in_ok-push-2.ensures.ok all no_cases m q one g))
    c.finish.ensures
