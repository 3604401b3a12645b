use Rattle.std.proofs.Common.{◌≡◌, ◌<◌, ◌≤◌, ◌∙◌, ◌+◌, [], ◌∷◌, length, map, drop, arith, sym, ap, refl, rules, add-one, drop-cons, Option, Some, None, is_some}
use Rattle.std.specs.Option.{option_map}
use Rattle.std.proofs.lemmas.List.{drop_all}
use Rattle.std.proofs.lemmas.Result.{IfOk-weaker}
use Rattle.cm_types.specs.Limits.{nodes_of_cases}
use Rattle.cm_types.specs.declared.limits.TheConstants.{MAX_NODES}
use Rattle.cm_types.specs.Types.{Cases, CasesKind, cases, no_cases, variant_type}
use Rattle.cm_types.specs.TypeTrees.{type_of, case_before, case_of, cases_of}
use Rattle.cm_types.specs.declared.type_trees.TypeNode.{TypeNode, the_lemmas}
use Rattle.cm_types.specs.declared.type_trees.Case.{Case, out-Case}
use Rattle.cm_layout.specs.Layouts.{IsLayingCases, layout_of}
use Rattle.cm_layout.specs.Shapes.{layout_at}
use Rattle.cm_types_arena.specs.Arena.{payload_types}
use Rattle.cm_types_arena.specs.Replaced.{Standing, replaced, replaced_cases}
use Rattle.cm_layout_placed.specs.Placed.{AreOf}
use Rattle.cm_layout_placed.proofs.PlacedLaws.{nth_payload, behind_payload}
use Rattle.cm_layout_placed.proofs.ReplacedLaws.{before_by, some_by}
use Rattle.cm_layout_placed.proofs.nodes.cases_layout.Goals.{then-is_carried, else-is_carried}
use Rattle.cm_layout_placed.proofs.nodes.cases_layout.Goals as goal

seen_case : (c : Case) → (case_of c).1 ≡ option_map type_of (out-Case c).payload
seen_case c = search (rules, the_lemmas)

same_some : (o : Option TypeNode) → is_some (option_map type_of o) ≡ is_some o
same_some None = refl
same_some (Some x) = refl

pub loop-case-init : goal.loop-case-init
loop-case-init c = (omega arith, λ s few a. (c.in_ok-builder.ensures (replaced_cases s (cases_of c.args.row.now)) few, refl))

pub payload_at-requires : goal.payload_at-requires
payload_at-requires c =
    let s = c.requires.0 in
    let i = c.loop-case.case-index in
    let cs = c.args.row.now in
    let x = c.case-item.result in
    let lt : i < length cs = c.loop-case-test.true in
    let next : drop i cs ≡ x ∷ drop (i + 1) cs = rw (add-one, drop-cons cs i x lt, ← c.case-item.is) refl in
    let some : is_some (case_of x).1 ≡ c.is_some-is_carried.result = ap is_some (seen_case x) ∙ same_some (out-Case x).payload ∙ sym c.is_some-is_carried.ensures in
    let rest = replaced_cases s (cases_of (drop (i + 1) cs)) in
    let all = payload_types (replaced_cases s (cases_of cs)) in
    let here : drop c.loop-case.next all ≡ payload_types (case_before (case_of x).0 (option_map (replaced s) (case_of x).1) rest) =
    (c.loop-case.invariant.1 s c.requires.1 c.requires.2).1 ∙ ap (λ l. payload_types (replaced_cases s (cases_of l))) next ∙ ap payload_types (before_by s (case_of x).0 (case_of x).1 (cases_of (drop (i + 1) cs))) in (
      all,
      option_map (replaced s) (case_of x).1,
      c.requires.2,
      some_by s (case_of x).1 ∙ some,
      nth_payload all c.loop-case.next (case_of x).0 (option_map (replaced s) (case_of x).1) rest here,
    )

pub loop-case-preserved : goal.loop-case-preserved
loop-case-preserved c =
    let i = c.loop-case.case-index in
    let cs = c.args.row.now in
    let x = c.case-item.result in
    let lt : i < length cs = c.loop-case-test.true in
    let next : drop i cs ≡ x ∷ drop (i + 1) cs = rw (add-one, drop-cons cs i x lt, ← c.case-item.is) refl in
    let some : is_some (case_of x).1 ≡ c.is_some-is_carried.result = ap is_some (seen_case x) ∙ same_some (out-Case x).payload ∙ sym c.is_some-is_carried.ensures in
    let le : c.if-is_carried.next ≤ i + 1 = elim c.if-is_carried.branch [
      | then-is_carried w ↦ omega (arith, w.next-is, c.loop-case.invariant.0)
      | else-is_carried w ↦ omega (arith, w.next-is, c.loop-case.invariant.0)
    ] in (
      le,
      λ s few a.
          let p = option_map (replaced s) (case_of x).1 in
          let rest = replaced_cases s (cases_of (drop (i + 1) cs)) in
          let all = payload_types (replaced_cases s (cases_of cs)) in
          let so = c.loop-case.invariant.1 s few a in
          let split : replaced_cases s (cases_of (drop i cs)) ≡ case_before (case_of x).0 p rest = ap (λ l. replaced_cases s (cases_of l)) next ∙ before_by s (case_of x).0 (case_of x).1 (cases_of (drop (i + 1) cs)) in
          let here : drop c.loop-case.next all ≡ payload_types (case_before (case_of x).0 p rest) = so.1 ∙ ap payload_types split in
          let carried = some_by s (case_of x).1 ∙ some in
          let behind = rw carried at (behind_payload all c.loop-case.next (case_of x).0 p rest here) in
          let after : drop c.if-is_carried.next all ≡ payload_types rest = elim c.if-is_carried.branch [
            | then-is_carried w ↦ rw (w.next-is, add-one) (rw w.if-is_carried.true at behind)
            | else-is_carried w ↦ rw w.next-is (rw w.if-is_carried.false at behind)
          ] in
          let is = c.in_ok-payload_at.ensures all p a carried (nth_payload all c.loop-case.next (case_of x).0 p rest here) in
          (c.in_ok-push.ensures.ok (replaced_cases s (cases_of cs)) rest (case_of x).0 p (rw split at so.0) is, after),
    )

pub finish-requires : goal.finish-requires
finish-requires c =
    let s = c.requires.0 in
    let cs = c.args.row.now in
    let none : drop c.loop-case.case-index cs ≡ [] = drop_all c.loop-case.case-index cs c.loop-case-test.false in
    (replaced_cases s (cases_of cs), rw none at (c.loop-case.invariant.1 s c.requires.1 c.requires.2).0)

pub returns : goal.returns
returns c =
    let cs = c.args.row.now in
    let ls = map layout_of c.args.layouts.now in
    let none : drop c.loop-case.case-index cs ≡ [] = drop_all c.loop-case.case-index cs c.loop-case-test.false in
    IfOk-weaker c.finish.result (λ l. (k : CasesKind) (all : Cases) → IsLayingCases all no_cases c.loop-case.builder → layout_of l ≡ layout_at (cases k all))
    (λ l. (s : Standing) → nodes_of_cases (replaced_cases s (cases_of cs)) ≤ MAX_NODES → AreOf ls c.args.places.now (payload_types (replaced_cases s (cases_of cs)))
    → layout_of l ≡ layout_at (cases variant_type (replaced_cases s (cases_of cs))))
    (λ l f s few a. f variant_type (replaced_cases s (cases_of cs)) (rw none at (c.loop-case.invariant.1 s few a).0)) c.finish.ensures
