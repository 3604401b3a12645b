use Rattle.std.proofs.Common.{ℕ, ◌+◌, [], refl, sym, subst, List, get_or, map, take}
use Rattle.std.proofs.lemmas.Result.{IfOk-from_err}
use Rattle.cm_types_arena.specs.Places.{types_of}
use Rattle.cm_types_arena.specs.TypeDefs.{type_at}
use Rattle.cm_types_numbers.specs.Numbering.{AreNumbers, numbering}
use Rattle.cm_types_numbers.proofs.KnownLaws.{all_parts, part_more}
use Rattle.cm_types_numbers.proofs.Stays.{extends_itself, extends_on}
use Rattle.cm_types_numbers.proofs.numbers.Numbers.number_parts.Goals as goal

pub loop-part-preserved : goal.loop-part-preserved
loop-part-preserved g c =
    let s = g.R.Replacement.replacement c.args.replacement.now in
    let ts = types_of c.args.types.now in
    let before = numbering c.loop-part.self in
    let after = numbering c.number_type.new.self in
    record {
      kept = extends_on (numbering c.args.self.now) before after c.loop-part.invariant.kept c.number_type.ensures.kept;
      known = c.number_type.ensures.known;
      numbers = subst (λ (ns : List ℕ). AreNumbers after s (map (type_at ts) (take (c.loop-part.part-index + 1) c.args.places.now)) ns) (sym c.in_ok-push.ensures.items)
          (part_more before after c.number_type.ensures.kept s ts c.args.places.now c.loop-part.part-index (get_or c.args.places.now c.loop-part.part-index 0) c.in_ok-number.number c.loop-part.parts.items c.loop-part-test.true refl c.loop-part.invariant.numbers c.in_ok-number.ensures.number);
    }

pub loop-part-init : goal.loop-part-init
loop-part-init g c =
    record {
      kept = extends_itself (numbering c.args.self.now);
      known = c.requires;
      numbers = subst (λ (ns : List ℕ). AreNumbers (numbering c.args.self.now) (g.R.Replacement.replacement c.args.replacement.now) [] ns) (sym c.new-parts.ensures.items) refl;
    }

pub number_type-requires : goal.number_type-requires
number_type-requires g c = c.loop-part.invariant.known

pub returns-in_err-number-clause-numbers : goal.returns-in_err-number-clause-numbers
returns-in_err-number-clause-numbers g c = IfOk-from_err c.from_residual.result _ c.from_residual.ensures.0

pub returns-in_err-number-clause-known : goal.returns-in_err-number-clause-known
returns-in_err-number-clause-known g c = c.number_type.ensures.known

pub returns-in_err-number-clause-kept : goal.returns-in_err-number-clause-kept
returns-in_err-number-clause-kept g c = extends_on (numbering c.args.self.now) (numbering c.loop-part.self) (numbering c.number_type.new.self) c.loop-part.invariant.kept c.number_type.ensures.kept

pub returns-in_err-push-clause-numbers : goal.returns-in_err-push-clause-numbers
returns-in_err-push-clause-numbers g c = IfOk-from_err c.from_residual-in_err-push.result _ c.from_residual-in_err-push.ensures.0

pub returns-in_err-push-clause-known : goal.returns-in_err-push-clause-known
returns-in_err-push-clause-known g c = c.number_type.ensures.known

pub returns-in_err-push-clause-kept : goal.returns-in_err-push-clause-kept
returns-in_err-push-clause-kept g c = extends_on (numbering c.args.self.now) (numbering c.loop-part.self) (numbering c.number_type.new.self) c.loop-part.invariant.kept c.number_type.ensures.kept

pub returns-clause-numbers : goal.returns-clause-numbers
returns-clause-numbers g c =
    all_parts (numbering c.loop-part.self) (g.R.Replacement.replacement c.args.replacement.now) (types_of c.args.types.now) c.args.places.now c.loop-part.part-index c.loop-part.parts.items c.loop-part-test.false c.loop-part.invariant.numbers

pub returns-clause-known : goal.returns-clause-known
returns-clause-known g c = c.loop-part.invariant.known

pub returns-clause-kept : goal.returns-clause-kept
returns-clause-kept g c = c.loop-part.invariant.kept
