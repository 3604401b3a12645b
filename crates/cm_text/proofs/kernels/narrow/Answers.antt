use Rattle.std.proofs.Common.{◌≡◌, ◌*◌, ◌∙◌, ◌++◌, [], ◌∷◌, get_or, length, ap, sym, arith, take_all, length-set}
use Rattle.std.specs.List.{flat_map}
use Rattle.std.proofs.lemmas.List.{take_more_set}
use lib.Lanes.{chunk}
use Rattle.cm_text.specs.Ascii.{wide}
use Rattle.cm_text.specs.Utf16.{first_bytes}
use Rattle.cm_text.proofs.PairLemmas.{all_ascii_units}
use Rattle.cm_text.proofs.UnitLemmas.{first_bytes-take, first_bytes-next, wide-first_bytes}
use Rattle.cm_text.proofs.kernels.narrow.Goals as goal

pub loop-out-preserved : goal.loop-out-preserved
loop-out-preserved c =
    let to = c.loop-out.to in
    let bytes = c.args.bytes.now in (
      omega arith,
      c.narrow_in.ensures.written ∙ ap (λ ys. ys ++ first_bytes (chunk (2 * to) 32 bytes)) c.loop-out.invariant.1 ∙ sym (first_bytes-take to 16 bytes (omega arith)),
    )

pub loop-to-preserved : goal.loop-to-preserved
loop-to-preserved c =
    let to = c.loop-to.to in
    let bytes = c.args.bytes.now in
    let x = get_or bytes (2 * to) 0 in (
      omega (arith, length-set c.loop-to.out to x),
      take_more_set c.loop-to.out to x c.loop-to-test.true ∙ ap (λ ys. ys ++ x ∷ []) c.loop-to.invariant.1 ∙ sym (first_bytes-next to bytes (omega arith)),
    )

pub returns-clause-same : goal.returns-clause-same
returns-clause-same c =
    let to = c.loop-to.to in
    let bytes = c.args.bytes.now in
    let out = c.loop-to.out in
    let all : out ≡ first_bytes bytes =
    sym (take_all to out c.loop-to-test.false) ∙ c.loop-to.invariant.1 ∙ ap first_bytes (take_all (2 * to) bytes (omega arith)) in
    ap (flat_map wide) all ∙ wide-first_bytes (length c.args.out.now) bytes c.requires.half (all_ascii_units bytes (length c.args.out.now) c.requires.ascii c.requires.half)
