use Rattle.std.proofs.Common.{ℕ, ◌+◌, ◌<◌, ◌∙◌, [], ap, arith, refl, sym, subst, List, get_or, map, take}
use Rattle.std.proofs.lemmas.Result.{IfOk-from_err}
use Rattle.cm_types.specs.Types.{Ty}
use Rattle.cm_types.specs.TypeTrees.{type_of}
use Rattle.cm_types_arena.specs.Places.{types_of}
use Rattle.cm_types_arena.specs.TypeDefs.{type_at}
use Rattle.cm_types_arena.specs.Replaced.{replaced}
use Rattle.cm_types_numbers.specs.Numbering.{AreNumbers, number, numbering}
use Rattle.cm_types_numbers.proofs.KnownLaws.{at_place, known_stays, none_there, numbered_here, part_more, parts_of}
use Rattle.cm_types_numbers.proofs.Stays.{extends_itself, extends_on}
use Rattle.cm_types_numbers.proofs.numbers.Numbers.+number_type.Goals as goal
use Rattle.cm_lemmas.proofs.Results.{if_ok_more}

pub returns-then-place-len-clause-known : goal.returns-then-place-len-clause-known
returns-then-place-len-clause-known g t c =
    known_stays (numbering c.args.self.now) (numbering c.node.new.self) c.node.ensures.kept (g.R.Replacement.replacement c.args.replacement.now) (types_of c.args.types.now) c.args.known.now c.requires

pub loop-part-preserved : goal.loop-part-preserved
loop-part-preserved g t c =
    let s = g.R.Replacement.replacement c.args.replacement.now in
    let ts = types_of c.args.types.now in
    let before = numbering c.loop-part.self in
    let after = numbering c.number_type.new.self in
    record {
      kept = extends_on (numbering c.args.self.now) before after c.loop-part.invariant.kept c.number_type.ensures.kept;
      known = c.number_type.ensures.known;
      numbers = subst (λ (ns : List ℕ). AreNumbers after s (map (type_at ts) (take (c.loop-part.part-index + 1) c.parts-part-items.result.now)) ns) (sym c.in_ok-push.ensures.items)
          (part_more before after c.number_type.ensures.kept s ts c.parts-part-items.result.now c.loop-part.part-index (get_or c.parts-part-items.result.now c.loop-part.part-index 0) c.in_ok-number.number c.loop-part.parts.items c.loop-part-test.true refl c.loop-part.invariant.numbers c.in_ok-number.ensures.number);
    }

pub key-requires : goal.key-requires
key-requires g t c =
    parts_of (numbering c.loop-part.self) (g.R.Replacement.replacement c.args.replacement.now) (types_of c.args.types.now) c.args.place c.parts-part-items.result.now c.loop-part.part-index c.loop-part.parts.items c.deref.result.now (type_of c.node-2.result.now) c.loop-part-test.false c.loop-part.invariant.numbers c.parts-part-items.ensures.parts c.deref.ensures.value c.node-2.ensures

pub returns-in_err-key-clause-known : goal.returns-in_err-key-clause-known
returns-in_err-key-clause-known g t c =
    known_stays (numbering c.loop-part.self) (numbering c.key.new.self) c.key.ensures.kept (g.R.Replacement.replacement c.args.replacement.now) (types_of c.args.types.now) c.loop-part.known c.loop-part.invariant.known

pub returns-in_err-number-2-clause-known : goal.returns-in_err-number-2-clause-known
returns-in_err-number-2-clause-known g t c =
    known_stays (numbering c.loop-part.self) (numbering c.node-3.new.self) (extends_on (numbering c.loop-part.self) (numbering c.key.new.self) (numbering c.node-3.new.self) c.key.ensures.kept c.node-3.ensures.kept) (g.R.Replacement.replacement c.args.replacement.now) (types_of c.args.types.now) c.loop-part.known c.loop-part.invariant.known

pub returns-in_err-note-clause-known : goal.returns-in_err-note-clause-known
returns-in_err-note-clause-known g t c =
    let s = g.R.Replacement.replacement c.args.replacement.now in
    let ts = types_of c.args.types.now in
    let before = numbering c.loop-part.self in
    let made = numbering c.key.new.self in
    let after = numbering c.node-3.new.self in
    c.note.ensures after s ts (known_stays before after (extends_on before made after c.key.ensures.kept c.node-3.ensures.kept) s ts c.loop-part.known c.loop-part.invariant.known)
    (numbered_here before s ts c.args.place c.parts-part-items.result.now c.loop-part.part-index c.loop-part.parts.items c.deref.result.now (type_of c.node-2.result.now) c.loop-part-test.false c.loop-part.invariant.numbers c.parts-part-items.ensures.parts c.deref.ensures.value c.node-2.ensures made after
    c.node-3.ensures.kept c.in_ok-key.key c.in_ok-number-2.number c.in_ok-key.ensures.node c.in_ok-number-2.ensures.number)

pub returns-clause-known : goal.returns-clause-known
returns-clause-known g t c =
    let s = g.R.Replacement.replacement c.args.replacement.now in
    let ts = types_of c.args.types.now in
    let before = numbering c.loop-part.self in
    let made = numbering c.key.new.self in
    let after = numbering c.node-3.new.self in
    c.note.ensures after s ts (known_stays before after (extends_on before made after c.key.ensures.kept c.node-3.ensures.kept) s ts c.loop-part.known c.loop-part.invariant.known)
    (numbered_here before s ts c.args.place c.parts-part-items.result.now c.loop-part.part-index c.loop-part.parts.items c.deref.result.now (type_of c.node-2.result.now) c.loop-part-test.false c.loop-part.invariant.numbers c.parts-part-items.ensures.parts c.deref.ensures.value c.node-2.ensures made after
    c.node-3.ensures.kept c.in_ok-key.key c.in_ok-number-2.number c.in_ok-key.ensures.node c.in_ok-number-2.ensures.number)

pub returns-in-Some-clause-number : goal.returns-in-Some-clause-number
returns-in-Some-clause-number g t c = c.requires c.args.place c.in-Some.number (sym c.get.ensures ∙ c.in-Some.is)

pub returns-in-Some-clause-known : goal.returns-in-Some-clause-known
returns-in-Some-clause-known g t c = c.requires

pub returns-in-Some-clause-kept : goal.returns-in-Some-clause-kept
returns-in-Some-clause-kept g t c = extends_itself (numbering c.args.self.now)

pub returns-then-place-len-clause-number : goal.returns-then-place-len-clause-number
returns-then-place-len-clause-number g t c =
    let s = g.R.Replacement.replacement c.args.replacement.now in
    let ts = types_of c.args.types.now in
    let none = none_there ts c.args.place (omega (arith, c.len.ensures, c.if-place-len.true)) in
    if_ok_more c.node.result _ _ c.node.ensures.number (λ n made. ap (λ (y : Ty). number (numbering c.node.new.self) (replaced s y)) none ∙ made)

pub returns-then-place-len-clause-kept : goal.returns-then-place-len-clause-kept
returns-then-place-len-clause-kept g t c = c.node.ensures.kept

pub loop-part-init : goal.loop-part-init
loop-part-init g t c =
    record {
      kept = extends_itself (numbering c.args.self.now);
      known = c.requires;
      numbers = subst (λ (ns : List ℕ). AreNumbers (numbering c.args.self.now) (g.R.Replacement.replacement c.args.replacement.now) [] ns) (sym c.new-parts.ensures.items) refl;
    }

pub number_type-requires : goal.number_type-requires
number_type-requires g t c =
    let ps = c.parts-part-items.result.now in
    let below : get_or ps c.loop-part.part-index 0 < c.args.place = at_place (λ p. p < c.args.place) ps c.loop-part.part-index 0 c.parts-part-items.ensures.earlier c.loop-part-test.true in
    let fall : get_or ps c.loop-part.part-index 0 < t = omega (arith, below, c.decreases) in
    λ κs out. (fall, (out, c.loop-part.invariant.known))

pub returns-in_err-number-clause-number : goal.returns-in_err-number-clause-number
returns-in_err-number-clause-number g t c = IfOk-from_err c.from_residual.result _ c.from_residual.ensures.0

pub returns-in_err-number-clause-known : goal.returns-in_err-number-clause-known
returns-in_err-number-clause-known g t c = c.number_type.ensures.known

pub returns-in_err-number-clause-kept : goal.returns-in_err-number-clause-kept
returns-in_err-number-clause-kept g t c = extends_on (numbering c.args.self.now) (numbering c.loop-part.self) (numbering c.number_type.new.self) c.loop-part.invariant.kept c.number_type.ensures.kept

pub returns-in_err-push-clause-number : goal.returns-in_err-push-clause-number
returns-in_err-push-clause-number g t c = IfOk-from_err c.from_residual-in_err-push.result _ c.from_residual-in_err-push.ensures.0

pub returns-in_err-push-clause-known : goal.returns-in_err-push-clause-known
returns-in_err-push-clause-known g t c = c.number_type.ensures.known

pub returns-in_err-push-clause-kept : goal.returns-in_err-push-clause-kept
returns-in_err-push-clause-kept g t c = extends_on (numbering c.args.self.now) (numbering c.loop-part.self) (numbering c.number_type.new.self) c.loop-part.invariant.kept c.number_type.ensures.kept

pub returns-in_err-key-clause-number : goal.returns-in_err-key-clause-number
returns-in_err-key-clause-number g t c = IfOk-from_err c.from_residual-in_err-key.result _ c.from_residual-in_err-key.ensures.0

pub returns-in_err-key-clause-kept : goal.returns-in_err-key-clause-kept
returns-in_err-key-clause-kept g t c = extends_on (numbering c.args.self.now) (numbering c.loop-part.self) (numbering c.key.new.self) c.loop-part.invariant.kept c.key.ensures.kept

pub returns-in_err-number-2-clause-number : goal.returns-in_err-number-2-clause-number
returns-in_err-number-2-clause-number g t c = IfOk-from_err c.from_residual-in_err-number-2.result _ c.from_residual-in_err-number-2.ensures.0

pub returns-in_err-number-2-clause-kept : goal.returns-in_err-number-2-clause-kept
returns-in_err-number-2-clause-kept g t c = extends_on (numbering c.args.self.now) (numbering c.key.new.self) (numbering c.node-3.new.self) (extends_on (numbering c.args.self.now) (numbering c.loop-part.self) (numbering c.key.new.self) c.loop-part.invariant.kept c.key.ensures.kept) c.node-3.ensures.kept

pub returns-in_err-note-clause-number : goal.returns-in_err-note-clause-number
returns-in_err-note-clause-number g t c = IfOk-from_err c.from_residual-in_err-note.result _ c.from_residual-in_err-note.ensures.0

pub returns-in_err-note-clause-kept : goal.returns-in_err-note-clause-kept
returns-in_err-note-clause-kept g t c = extends_on (numbering c.args.self.now) (numbering c.key.new.self) (numbering c.node-3.new.self) (extends_on (numbering c.args.self.now) (numbering c.loop-part.self) (numbering c.key.new.self) c.loop-part.invariant.kept c.key.ensures.kept) c.node-3.ensures.kept

pub returns-clause-number : goal.returns-clause-number
returns-clause-number g t c =
    numbered_here (numbering c.loop-part.self) (g.R.Replacement.replacement c.args.replacement.now) (types_of c.args.types.now) c.args.place c.parts-part-items.result.now c.loop-part.part-index c.loop-part.parts.items c.deref.result.now (type_of c.node-2.result.now) c.loop-part-test.false c.loop-part.invariant.numbers c.parts-part-items.ensures.parts c.deref.ensures.value c.node-2.ensures
    (numbering c.key.new.self) (numbering c.node-3.new.self) c.node-3.ensures.kept c.in_ok-key.key c.in_ok-number-2.number c.in_ok-key.ensures.node c.in_ok-number-2.ensures.number

pub returns-clause-kept : goal.returns-clause-kept
returns-clause-kept g t c = extends_on (numbering c.args.self.now) (numbering c.key.new.self) (numbering c.node-3.new.self) (extends_on (numbering c.args.self.now) (numbering c.loop-part.self) (numbering c.key.new.self) c.loop-part.invariant.kept c.key.ensures.kept) c.node-3.ensures.kept
