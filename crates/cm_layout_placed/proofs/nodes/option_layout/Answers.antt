use Rattle.std.proofs.Common.{◌≡◌, ◌≤◌, ◌∙◌, List, [], ◌∷◌, map, arith, ap, rules, codes, ℕ, Option, Some, None}
use Rattle.std.specs.Option.{option_map}
use Rattle.std.proofs.lemmas.Result.{IfOk-weaker}
use Rattle.cm_types.specs.Limits.{nodes_of, nodes_of_cases}
use Rattle.cm_types.specs.declared.limits.TheConstants.{MAX_NODES}
use Rattle.cm_types.specs.TypeTrees.{case_before}
use Rattle.cm_types.specs.Types.{Ty, CasesKind, cases, no_cases, option_type}
use Rattle.cm_layout.specs.declared.layouts.Layout.{Layout}
use Rattle.cm_layout.specs.declared.layouts.Payload.{the_lemmas}
use Rattle.cm_layout.specs.declared.layouts.Payload.TheVariants as payload
use Rattle.cm_layout.specs.declared.layouts.Form.TheViews as view
use Rattle.cm_layout.specs.Layouts.{layout_of, payload_of}
use Rattle.cm_layout.specs.Shapes.{layout_at}
use Rattle.cm_layout_placed.specs.Placed.{AreOf, option_cases}
use Rattle.cm_layout_placed.proofs.nodes.option_layout.Goals as goal

seen_Carried : (l : Layout) → payload_of (view.Carried l) ≡ Some (layout_of l)
seen_Carried l = search (rules, the_lemmas)

seen_Nothing : payload_of payload.Nothing ≡ None
seen_Nothing = search (rules, the_lemmas)

carried : (t : Ty) (l : Layout) → layout_of l ≡ layout_at t → payload_of (view.Carried l) ≡ option_map layout_at (Some t)
carried t l e = seen_Carried l ∙ ap Some e

pub two_cases-requires : goal.two_cases-requires
two_cases-requires c =
    let r = c.requires in
    let is = c.in_ok-some.ensures (r.0 ∷ []) r.2 (omega arith) in
    record { within = (codes "none", codes "some", None, Some r.0, omega (arith, r.1), seen_Nothing, carried r.0 c.in_ok-some.some is) }

pub returns : goal.returns
returns c =
    let ls = map layout_of c.args.layouts.now in
    IfOk-weaker c.two_cases.result
    (λ x. (k : CasesKind) (l m : List ℕ) (p q : Option Ty) → nodes_of_cases (case_before l p (case_before m q no_cases)) ≤ MAX_NODES
    → payload_of payload.Nothing ≡ option_map layout_at p → payload_of (view.Carried c.in_ok-some.some) ≡ option_map layout_at q → layout_of x ≡ layout_at (cases k (case_before l p (case_before m q no_cases))))
    (λ x. (some : Ty) → nodes_of (cases option_type (option_cases some)) ≤ MAX_NODES → AreOf ls c.args.places.now (some ∷ []) → layout_of x ≡ layout_at (cases option_type (option_cases some)))
    (λ x f some few a. f option_type (codes "none") (codes "some") None (Some some) (omega (arith, few)) seen_Nothing (carried some c.in_ok-some.some (c.in_ok-some.ensures (some ∷ []) a (omega arith))))
    c.two_cases.ensures
