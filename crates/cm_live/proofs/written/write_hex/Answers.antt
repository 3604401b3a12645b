use Rattle.std.proofs.Common.{rules, ◌≡◌, ◌++◌, [], sym, ap, ◌∙◌}
use Rattle.std.proofs.lemmas.List.{append_assoc}
use Rattle.cm_live.proofs.LineLaws.{appends_digits, appends_no_digits}
use Rattle.cm_live.proofs.written.write_hex.Goals as goal

pub loop-piece-init : goal.loop-piece-init
loop-piece-init g c = (
  [],
  sym (ap (λ r. r.rest.now) c.into_iter-piece-iterator.ensures.into_iter_gives
      ∙ c.chunks-piece-items.ensures.rest),
  appends_no_digits (g.O.Write.contents c.args.out.now),
)

pub loop-piece-preserved : goal.loop-piece-preserved
loop-piece-preserved g c =
    let i = c.loop-piece.invariant in
    let piece = c.in-Some.piece.now in
    let rest = c.next.new.self.rest.now in
    let cut : c.loop-piece.piece-iterator.rest.now ≡ piece ++ rest = search rules in (
      i.0 ++ piece,
      i.1 ∙ ap (λ ys. i.0 ++ ys) cut ∙ sym (append_assoc i.0 piece rest),
      appends_digits (g.O.Write.contents c.args.out.now) (g.O.Write.contents c.loop-piece.out)
          (g.O.Write.contents c.write_piece.new.out) i.0 piece i.2 (c.in_ok-write_piece.ensures),
    )
