use Rattle.std.proofs.Common.{◌≡◌, ◌+◌, ◌<◌, None, ap, length, rules, slice_get, subst, sym}
use Rattle.cm_types_arena.specs.Listed.{by_of, item_in, items_listed}
use Rattle.cm_tool_show.specs.Written.{Wrote}
use Rattle.cm_tool_show.proofs.LineLaws.{all_lines, before_end, brought_line, brought_shown, first_lines, one_more, stopped}
use Rattle.cm_tool_show.proofs.ShownLaws.{all_shown, answers, told}
use Rattle.cm_tool_show.proofs.items.show_items.Goals as goal
use Rattle.cm_tool_show.proofs.items.show_items.Goals.{in-Some+in_ok-show_item, in_default}

pub returns-in_err-show_item : goal.returns-in_err-show_item
returns-in_err-show_item c =
    let t = c.args.types.now in
    let by = by_of c.args.items in
    let x = item_in t c.in-Some.item in
    answers (search rules) (brought_shown by (items_listed t c.args.items) (
    stopped (brought_line by) (items_listed t c.args.items) c.loop-place.place x c.args.page.now c.loop-place.page (sym (c.in-Some.ensures.is t)) c.pages_join.ensures.over c.loop-place.invariant
    (told (ap (λ b. brought_line b x) (sym c.by-brought.ensures)) c.in_err-show_item.ensures)))

pub loop-place-preserved : goal.loop-place-preserved
loop-place-preserved c =
    let t = c.args.types.now in
    let by = by_of c.args.items in
    let xs = items_listed t c.args.items in
    elim c.match-at.branch [
      | in-Some+in_ok-show_item w ↦
          let x = item_in t w.in-Some.item in
          let shown = told (ap (λ b. brought_line b x) (sym c.by-brought.ensures)) w.in_ok-show_item.ensures in
          subst (λ p. Wrote (first_lines (brought_line by) xs (c.loop-place.place + 1)) c.args.page.now p) (sym w.page-is)
          (one_more (brought_line by) xs c.loop-place.place x c.args.page.now c.loop-place.page w.show_item.new.page (sym (w.in-Some.ensures.is t)) c.pages_join.ensures.more c.loop-place.invariant shown.wrote)
      | in_default w ↦
          let lt : c.loop-place.place < length xs = search rules in
          let none : None ≡ slice_get xs c.loop-place.place = search rules in
          absurd (before_end xs c.loop-place.place lt (sym none))
    ]

pub returns : goal.returns
returns c =
    let t = c.args.types.now in
    let by = by_of c.args.items in
    let xs = items_listed t c.args.items in
    brought_shown by xs (all_shown (all_lines (brought_line by) xs c.loop-place.place c.args.page.now c.loop-place.page (search rules) c.loop-place.invariant))
