use Rattle.std.proofs.Common.{◌≡◌, ◌≤◌, ◌∙◌, List, map, arith, ap, sym, codes, ℕ, Option, is_some, Bool, if◌then◌else◌, subst}
use Rattle.std.specs.Option.{option_map}
use Rattle.std.proofs.lemmas.Result.{IfOk-weaker}
use Rattle.cm_types.specs.Limits.{nodes_of, nodes_of_cases}
use Rattle.cm_types.specs.declared.limits.TheConstants.{MAX_NODES}
use Rattle.cm_types.specs.TypeTrees.{case_before}
use Rattle.cm_types.specs.Types.{Ty, CasesKind, cases, no_cases, result_type}
use Rattle.cm_layout.specs.Layouts.{layout_of, payload_of}
use Rattle.cm_layout.specs.Shapes.{layout_at}
use Rattle.cm_types_arena.specs.Arena.{payload_types}
use Rattle.cm_layout_placed.specs.Placed.{AreOf, IsNth, result_cases}
use Rattle.cm_layout_placed.proofs.PlacedLaws.{first_payload, second_payload}
use Rattle.cm_layout_placed.proofs.nodes.result_layout.Goals.{then-has_ok, else-has_ok}
use Rattle.cm_layout_placed.proofs.nodes.result_layout.Goals as goal

second_at : (ok error : Option Ty) (b : Bool) (n : ℕ) → is_some ok ≡ b → n ≡ (if b then 1 else 0) → IsNth (payload_types (result_cases ok error)) n error
second_at ok error b n e is = subst (λ m. IsNth (payload_types (result_cases ok error)) m error) (ap (λ x. if x then 1 else 0) e ∙ sym is) (second_payload ok error)

pub two_cases-requires : goal.two_cases-requires
two_cases-requires c =
    let r = c.requires in
    let ts = payload_types (result_cases r.0 r.1) in
    let first = c.in_ok-first.ensures ts r.0 r.5 r.3 (first_payload r.0 r.1) in
    let is : c.if-has_ok.behind ≡ (if c.args.has_ok then 1 else 0) = elim c.if-has_ok.branch [
      | then-has_ok w ↦ rw w.if-has_ok.true w.behind-is
      | else-has_ok w ↦ rw w.if-has_ok.false w.behind-is
    ] in
    record { within = (codes "ok", codes "error", r.0, r.1, omega (arith, r.2), first, c.in_ok-second.ensures ts r.1 r.5 r.4 (second_at r.0 r.1 c.args.has_ok c.if-has_ok.behind r.3 is)) }

pub returns : goal.returns
returns c =
    let ls = map layout_of c.args.layouts.now in
    let ps = c.args.places.now in
    IfOk-weaker c.two_cases.result
    (λ x. (k : CasesKind) (l m : List ℕ) (p q : Option Ty) → nodes_of_cases (case_before l p (case_before m q no_cases)) ≤ MAX_NODES
    → payload_of c.in_ok-first.first ≡ option_map layout_at p → payload_of c.in_ok-second.second ≡ option_map layout_at q → layout_of x ≡ layout_at (cases k (case_before l p (case_before m q no_cases))))
    (λ x. (ok error : Option Ty) → nodes_of (cases result_type (result_cases ok error)) ≤ MAX_NODES → is_some ok ≡ c.args.has_ok → is_some error ≡ c.args.has_error
    → AreOf ls ps (payload_types (result_cases ok error)) → layout_of x ≡ layout_at (cases result_type (result_cases ok error)))
    (λ x f ok error few o e a.
    let ts = payload_types (result_cases ok error) in
    let first = c.in_ok-first.ensures ts ok a o (first_payload ok error) in
    let is : c.if-has_ok.behind ≡ (if c.args.has_ok then 1 else 0) = elim c.if-has_ok.branch [
      | then-has_ok w ↦ rw w.if-has_ok.true w.behind-is
      | else-has_ok w ↦ rw w.if-has_ok.false w.behind-is
    ] in
    f result_type (codes "ok") (codes "error") ok error (omega (arith, few)) first (c.in_ok-second.ensures ts error a e (second_at ok error c.args.has_ok c.if-has_ok.behind o is)))
    c.two_cases.ensures
