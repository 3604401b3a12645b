use Rattle.std.proofs.Common.{◌≡◌, ◌+◌, ◌-◌, ◌<◌, Some, map, sym, ap, ◌∙◌, arith, if◌then◌else◌}
use Rattle.std.specs.String.{string_bytes}
use Rattle.cm_names.specs.Finding.{found_at, found_from, window}
use Rattle.cm_names.proofs.FindingLaws.{found_by, found_step, window_is}
use Rattle.cm_names.proofs.finding.find.Goals as goal

pub loop-at-init : goal.loop-at-init
loop-at-init c =
    let ms = c.args.marks.now in
    let ts = map string_bytes c.args.texts.now in
    let t = c.args.text.now in
    let all : c.home-home.result + window - c.home-home.result ≡ window = omega arith in (
      omega arith,
      omega arith,
      ap (found_from ms ts t c.home-home.result) all ∙ ap (λ h. found_from ms ts t h window) c.home-home.ensures.home ∙ sym (found_by ms ts t),
    )

pub returns-in_err-number : goal.returns-in_err-number
returns-in_err-number c =
    let ms = c.args.marks.now in
    let ts = map string_bytes c.args.texts.now in
    let t = c.args.text.now in
    let at = c.loop-at.at in
    let rest = found_from ms ts t (at + 1) (c.home-home.result + window - (at + 1)) in
    let lt : at < c.home-home.result + window = omega (arith, window_is) in
    c.from_residual.ensures
    ∙ sym (sym c.loop-at.invariant.2 ∙ found_step ms ts t at (c.home-home.result + window) lt ∙ ap (λ o. found_at ts t o rest) (sym c.marked.ensures ∙ c.in_err-number.was))

pub returns-then-is_text : goal.returns-then-is_text
returns-then-is_text c =
    let ms = c.args.marks.now in
    let ts = map string_bytes c.args.texts.now in
    let t = c.args.text.now in
    let at = c.loop-at.at in
    let rest = found_from ms ts t (at + 1) (c.home-home.result + window - (at + 1)) in
    let lt : at < c.home-home.result + window = omega (arith, window_is) in
    sym (sym c.loop-at.invariant.2 ∙ found_step ms ts t at (c.home-home.result + window) lt ∙ ap (λ o. found_at ts t o rest) (sym c.marked.ensures ∙ c.in_ok-number.was)
    ∙ ap (λ b. if b then Some c.in_ok-number.number else rest) (sym c.is_text.ensures ∙ c.if-is_text.true))

pub loop-at-preserved : goal.loop-at-preserved
loop-at-preserved c =
    let ms = c.args.marks.now in
    let ts = map string_bytes c.args.texts.now in
    let t = c.args.text.now in
    let at = c.loop-at.at in
    let rest = found_from ms ts t (at + 1) (c.home-home.result + window - (at + 1)) in
    let lt : at < c.home-home.result + window = omega (arith, window_is) in (
      omega arith,
      omega arith,
      sym (found_step ms ts t at (c.home-home.result + window) lt ∙ ap (λ o. found_at ts t o rest) (sym c.marked.ensures ∙ c.in_ok-number.was)
          ∙ ap (λ b. if b then Some c.in_ok-number.number else rest) (sym c.is_text.ensures ∙ c.if-is_text.false)) ∙ c.loop-at.invariant.2,
    )

pub returns : goal.returns
returns c =
    let ms = c.args.marks.now in
    let ts = map string_bytes c.args.texts.now in
    let t = c.args.text.now in
    let none : c.home-home.result + window - c.loop-at.at ≡ 0 = omega (arith, window_is) in
    sym (sym c.loop-at.invariant.2 ∙ ap (found_from ms ts t c.loop-at.at) none)
