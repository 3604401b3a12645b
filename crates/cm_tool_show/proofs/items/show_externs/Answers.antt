use Rattle.std.proofs.Common.{◌≡◌, ◌+◌, ◌<◌, Err, None, IsErrOf, length, rules, slice_get, subst, sym}
use Rattle.cm_types_arena.specs.Listed.{extern_in, externs_listed}
use Rattle.cm_tool_show.specs.Written.{Wrote}
use Rattle.cm_tool_show.specs.declared.fault.ShowFault.TheVariants as fault
use Rattle.cm_tool_show.proofs.LineLaws.{before_end, first_lines, one_more, too_long, word_lines}
use Rattle.cm_tool_show.proofs.items.show_externs.Goals as goal
use Rattle.cm_tool_show.proofs.items.show_externs.Goals.{in-Some+in_ok-show_extern, in_default}

pub loop-place-preserved : goal.loop-place-preserved
loop-place-preserved c =
    let t = c.args.types.now in
    let f = word_lines c.args.word.now in
    let xs = externs_listed t c.args.externs.now in
    elim c.match-at.branch [
      | in-Some+in_ok-show_extern w ↦
          subst (λ p. Wrote (first_lines f xs (c.loop-place.place + 1)) c.args.page.now p) (sym w.page-is)
          (one_more f xs c.loop-place.place (extern_in t w.in-Some.each) c.args.page.now c.loop-place.page w.show_extern.new.page (sym (w.in-Some.ensures.is t)) c.pages_join.ensures.more c.loop-place.invariant w.in_ok-show_extern.ensures.wrote)
      | in_default w ↦
          let lt : c.loop-place.place < length xs = search rules in
          let none : None ≡ slice_get xs c.loop-place.place = search rules in
          absurd (before_end xs c.loop-place.place lt (sym none))
    ]

pub returns-in_err-show_extern-clause-over : goal.returns-in_err-show_extern-clause-over
returns-in_err-show_extern-clause-over c =
    let t = c.args.types.now in
    let same : c.from_residual.result ≡ Err c.in_err-show_extern.field-0.0 = search rules in
    λ q. too_long (word_lines c.args.word.now) (externs_listed t c.args.externs.now) c.loop-place.place (extern_in t c.in-Some.each) c.args.page.now c.loop-place.page (sym (c.in-Some.ensures.is t)) c.pages_join.ensures.over c.loop-place.invariant (c.in_err-show_extern.ensures.over (subst (λ r. IsErrOf r fault.TooLong) same q))
