use Rattle.std.proofs.Common.{◌≡◌, ◌<◌, arith, is_some, ◌∙◌, ap, sym, ◌++◌, ◌∷◌, [], take, map, append-nil, Vec, Global, ℕ, length, get_or}
use Rattle.std.specs.Prelude.{None, Some}
use Rattle.cm_types.specs.declared.type_trees.Case.{Case}
use Rattle.cm_types.specs.TypeTrees.{case_of}
use Rattle.cm_types_arena.specs.declared.type_defs.CaseDef.{CaseDef}
use Rattle.cm_types_arena.specs.TypeDefs.{payload_places}
use Rattle.cm_validate_types.proofs.DefLaws.{carries, left_none, left_some, one_more, places_more, take_more}
use Rattle.cm_validate_types.proofs.definitions.case_defs.Goals.{in-None+in_ok-push-in-None, in-Some+in_ok-push-in-Some}
use Rattle.cm_validate_types.proofs.definitions.case_defs.Goals as goal
use Rattle.cm_types.proofs.TypeTreesLaws.{seen_case_label}

pub bounds-payloads-used : goal.bounds-payloads-used
bounds-payloads-used c =
    let left = left_some c.args.cases.now c.loop-case.case-index c.case-item.result c.in-Some.field-0 c.loop-case-test.true c.case-item.is c.in-Some.is in
    omega (arith, left, c.loop-case.invariant.left)

pub loop-case-preserved : goal.loop-case-preserved
loop-case-preserved c =
    let cs = c.args.cases.now in
    let i = c.loop-case.case-index in
    let old = c.loop-case.defs.items in
    let label = c.in_ok-label.ensures.cases ∙ sym (seen_case_label c.case-item.result) in
    elim c.match-case.branch [
      | in-None+in_ok-push-in-None w ↦
          let d : CaseDef = record { label = c.in_ok-label.label; payload = None } in
          let items : c.match-case.defs.items ≡ old ++ d ∷ [] = ap (λ (v : Vec CaseDef Global). v.items) w.defs-is ∙ w.in_ok-push-in-None.ensures.items in
          let left = left_none c.args.cases.now c.loop-case.case-index c.case-item.result c.loop-case-test.true c.case-item.is w.in-None.is in
          record {
            labels = ap (map (λ (e : CaseDef). e.label)) items ∙ one_more (λ (e : CaseDef). e.label) (λ (e : Case). (case_of e).0) old d cs i c.case-item.result c.loop-case-test.true c.case-item.is c.loop-case.invariant.labels label;
            carrying = ap (map (λ (e : CaseDef). is_some e.payload)) items ∙ one_more (λ (e : CaseDef). is_some e.payload) (λ (e : Case). is_some (case_of e).1) old d cs i c.case-item.result c.loop-case-test.true c.case-item.is c.loop-case.invariant.carrying (carries c.case-item.result None w.in-None.is);
            places = ap payload_places items ∙ places_more old d ∙ append-nil (payload_places old) ∙ c.loop-case.invariant.places ∙ ap (λ (n : ℕ). take n c.args.payloads.now) (sym w.used-is);
            left = omega (arith, w.used-is, left, c.loop-case.invariant.left);
          }
      | in-Some+in_ok-push-in-Some w ↦
          let d : CaseDef = record { label = c.in_ok-label.label; payload = Some (get_or c.args.payloads.now c.loop-case.used 0) } in
          let items : c.match-case.defs.items ≡ old ++ d ∷ [] = ap (λ (v : Vec CaseDef Global). v.items) w.defs-is ∙ w.in_ok-push-in-Some.ensures.items in
          let left = left_some c.args.cases.now c.loop-case.case-index c.case-item.result w.in-Some.field-0 c.loop-case-test.true c.case-item.is w.in-Some.is in
          let there : c.loop-case.used < length c.args.payloads.now = omega (arith, left, c.loop-case.invariant.left) in
          record {
            labels = ap (map (λ (e : CaseDef). e.label)) items ∙ one_more (λ (e : CaseDef). e.label) (λ (e : Case). (case_of e).0) old d cs i c.case-item.result c.loop-case-test.true c.case-item.is c.loop-case.invariant.labels label;
            carrying = ap (map (λ (e : CaseDef). is_some e.payload)) items ∙ one_more (λ (e : CaseDef). is_some e.payload) (λ (e : Case). is_some (case_of e).1) old d cs i c.case-item.result c.loop-case-test.true c.case-item.is c.loop-case.invariant.carrying (carries c.case-item.result (Some w.in-Some.field-0) w.in-Some.is);
            places = ap payload_places items ∙ places_more old d ∙ ap (λ ps. ps ++ get_or c.args.payloads.now c.loop-case.used 0 ∷ []) c.loop-case.invariant.places ∙ sym (take_more c.args.payloads.now c.loop-case.used 0 there) ∙ ap (λ (n : ℕ). take n c.args.payloads.now) (sym w.used-is);
            left = omega (arith, w.used-is, left, c.loop-case.invariant.left);
          }
    ]
