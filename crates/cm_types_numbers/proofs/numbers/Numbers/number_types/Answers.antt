use Rattle.std.proofs.Common.{◌≡◌, ◌∙◌, [], ap, arith, length, refl, take, map, sym, subst, ◌+◌, ℕ, List}
use Rattle.std.specs.Prelude.{slice_index}
use Rattle.std.proofs.lemmas.Result.{IfOk-from_err}
use Rattle.std.proofs.lemmas.List.{length-map, take_all}
use Rattle.cm_types.specs.Types.{Ty}
use Rattle.cm_types.specs.TypeTrees.{type_of}
use Rattle.cm_types_arena.specs.Arena.{parts_in}
use Rattle.cm_types_arena.specs.Places.{types_of}
use Rattle.cm_types_arena.specs.TypeDefs.{type_at}
use Rattle.cm_types_numbers.specs.Numbering.{numbering, AreNumbers, IsNodeOf}
use Rattle.cm_types_arena.specs.Replaced.{replaced}
use Rattle.cm_types_numbers.proofs.ArenaLemmas.{type_numbered}
use Rattle.cm_types_numbers.proofs.Stays.{extends_itself, extends_on}
use Rattle.cm_types_numbers.proofs.numbers.Numbers.number_types.Goals as goal

pub loop-place-preserved : goal.loop-place-preserved
loop-place-preserved g c =
    let s = g.R.Replacement.replacement c.args.replacement.now in
    let ts = types_of c.args.types.now in
    let t = numbering c.loop-place.self in
    let u = numbering c.key.new.self in
    let v = numbering c.node-in-loop-place.new.self in
    let given = c.deref-in-loop-place.ensures.value ∙ c.in_ok-parts.ensures ∙ ap (λ (ns : List ℕ). map (slice_index ns) c.parts.result.now) c.deref.ensures.value in
    let more = type_numbered t u v c.key.ensures.kept c.node-in-loop-place.ensures.kept s ts c.loop-place.place c.loop-place.numbers.items c.loop-place.invariant.numbers (omega (arith, c.loop-place-test.true, c.len-place-end.ensures))
    c.parts.result.now c.deref-in-loop-place.result.now c.parts.ensures.earlier (type_of c.node.result.now) c.node.ensures c.parts.ensures.parts given c.in_ok-key.key c.in_ok-number.number c.in_ok-key.ensures.node c.in_ok-number.ensures.number in
    record {
      kept = extends_on (numbering c.args.self.now) t v c.loop-place.invariant.kept (extends_on t u v c.key.ensures.kept c.node-in-loop-place.ensures.kept);
      numbers = subst (λ (ns : List ℕ). AreNumbers v s (take (c.loop-place.place + 1) ts) ns) (sym c.in_ok-push.ensures.items) more;
    }

pub loop-place-init : goal.loop-place-init
loop-place-init g c =
    record {
      kept = extends_itself (numbering c.args.self.now);
      numbers = subst (λ (ns : List ℕ). AreNumbers (numbering c.args.self.now) (g.R.Replacement.replacement c.args.replacement.now) [] ns) (sym c.in_ok-numbers.ensures.items) refl;
    }

pub key-requires : goal.key-requires
key-requires g c =
    let ts = types_of c.args.types.now in
    let ps = c.parts.result.now in
    let given = c.deref-in-loop-place.ensures.value ∙ c.in_ok-parts.ensures in
    ap length given ∙ length-map ps (slice_index c.deref.result.now) ∙ sym (ap length c.parts.ensures.parts ∙ length-map ps (type_at ts)) ∙ sym (ap (λ (t : Ty). length (parts_in t)) c.node.ensures)

pub returns-in_err-numbers-clause-numbers : goal.returns-in_err-numbers-clause-numbers
returns-in_err-numbers-clause-numbers g c = IfOk-from_err c.from_residual.result _ c.from_residual.ensures.0

pub returns-in_err-numbers-clause-kept : goal.returns-in_err-numbers-clause-kept
returns-in_err-numbers-clause-kept g c = extends_itself (numbering c.args.self.now)

pub returns-in_err-parts-clause-numbers : goal.returns-in_err-parts-clause-numbers
returns-in_err-parts-clause-numbers g c = IfOk-from_err c.from_residual-in_err-parts.result _ c.from_residual-in_err-parts.ensures.0

pub returns-in_err-parts-clause-kept : goal.returns-in_err-parts-clause-kept
returns-in_err-parts-clause-kept g c = c.loop-place.invariant.kept

pub returns-in_err-key-clause-numbers : goal.returns-in_err-key-clause-numbers
returns-in_err-key-clause-numbers g c = IfOk-from_err c.from_residual-in_err-key.result _ c.from_residual-in_err-key.ensures.0

pub returns-in_err-key-clause-kept : goal.returns-in_err-key-clause-kept
returns-in_err-key-clause-kept g c = extends_on (numbering c.args.self.now) (numbering c.loop-place.self) (numbering c.key.new.self) c.loop-place.invariant.kept c.key.ensures.kept

pub returns-in_err-number-clause-numbers : goal.returns-in_err-number-clause-numbers
returns-in_err-number-clause-numbers g c = IfOk-from_err c.from_residual-in_err-number.result _ c.from_residual-in_err-number.ensures.0

pub returns-in_err-number-clause-kept : goal.returns-in_err-number-clause-kept
returns-in_err-number-clause-kept g c = extends_on (numbering c.args.self.now) (numbering c.key.new.self) (numbering c.node-in-loop-place.new.self) (extends_on (numbering c.args.self.now) (numbering c.loop-place.self) (numbering c.key.new.self) c.loop-place.invariant.kept c.key.ensures.kept) c.node-in-loop-place.ensures.kept

pub returns-in_err-push-clause-numbers : goal.returns-in_err-push-clause-numbers
returns-in_err-push-clause-numbers g c = IfOk-from_err c.from_residual-in_err-push.result _ c.from_residual-in_err-push.ensures.0

pub returns-in_err-push-clause-kept : goal.returns-in_err-push-clause-kept
returns-in_err-push-clause-kept g c = extends_on (numbering c.args.self.now) (numbering c.key.new.self) (numbering c.node-in-loop-place.new.self) (extends_on (numbering c.args.self.now) (numbering c.loop-place.self) (numbering c.key.new.self) c.loop-place.invariant.kept c.key.ensures.kept) c.node-in-loop-place.ensures.kept

pub returns-clause-numbers : goal.returns-clause-numbers
returns-clause-numbers g c =
    let s = g.R.Replacement.replacement c.args.replacement.now in
    let ts = types_of c.args.types.now in
    subst (λ (us : List Ty). AreNumbers (numbering c.loop-place.self) s us c.loop-place.numbers.items) (take_all c.loop-place.place ts (omega (arith, c.loop-place-test.false, c.len-place-end.ensures))) c.loop-place.invariant.numbers

pub returns-clause-kept : goal.returns-clause-kept
returns-clause-kept g c = c.loop-place.invariant.kept
