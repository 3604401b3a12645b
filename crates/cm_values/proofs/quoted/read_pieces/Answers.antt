use Rattle.std.proofs.Common.{Option, List, ℕ, ap, sym, ◌∙◌, ◌++◌, ◌∷◌, []}
use Rattle.std.proofs.lemmas.Result.{err_from_is_err_and}
use Rattle.cm_lemmas.proofs.Results.{ok_of}
use Rattle.cm_values.specs.declared.value_fault.Fault.{Fault}
use Rattle.cm_values.specs.declared.piece.Piece.{Piece}
use Rattle.cm_values.specs.Quoted.{next_piece, piece_bytes}
use Rattle.cm_values.proofs.LoopLaws.{pieces_end, pieces_fail, pieces_more, steps_start}
use Rattle.cm_values.proofs.StepLaws.{steps_go_on}
use Rattle.cm_values.proofs.ValueLaws.{next_piece_moves}
use Rattle.cm_values.proofs.quoted.read_pieces.Goals as goal

pub loop-bytes-init : goal.loop-bytes-init
loop-bytes-init c = ([], c.new-bytes.ensures.items, steps_start (next_piece c.args.quote) c.args.cursor.now.rest.now)

pub loop-bytes-smaller : goal.loop-bytes-smaller
loop-bytes-smaller c = next_piece_moves c.args.quote c.loop-bytes.cursor.rest.now c.in-Some.piece c.read_next_piece.new.cursor.rest.now (c.in_ok-piece.ensures ∙ ap (λ (o : Option Piece). ok_of Fault (o, c.read_next_piece.new.cursor.rest.now)) c.in-Some.is)

pub loop-bytes-preserved : goal.loop-bytes-preserved
loop-bytes-preserved c =
    let i = c.loop-bytes.invariant in (
      i.0 ++ c.in-Some.piece ∷ [],
      c.in_ok-push_piece.ensures ∙ (ap (λ (z : List ℕ). z ++ piece_bytes c.in-Some.piece) i.1 ∙ sym (pieces_more i.0 c.in-Some.piece)),
      steps_go_on (next_piece c.args.quote) (next_piece_moves c.args.quote) i.0 c.in-Some.piece c.loop-bytes.cursor.rest.now c.read_next_piece.new.cursor.rest.now _ i.2 (c.in_ok-piece.ensures ∙ ap (λ (o : Option Piece). ok_of Fault (o, c.read_next_piece.new.cursor.rest.now)) c.in-Some.is),
    )

pub returns-in_err-piece : goal.returns-in_err-piece
returns-in_err-piece c =
    let p = err_from_is_err_and c.from_residual.result c.from_residual.ensures.1 in
    let i = c.loop-bytes.invariant in
    rw (p.1, p.2) (pieces_fail c.args.quote i.0 c.loop-bytes.cursor.rest.now c.args.cursor.now.rest.now c.in_err-piece.field-0.0 i.2 c.in_err-piece.ensures)

pub returns : goal.returns
returns c =
    let i = c.loop-bytes.invariant in
    pieces_end c.args.quote i.0 c.loop-bytes.cursor.rest.now c.args.cursor.now.rest.now c.read_next_piece.new.cursor.rest.now i.2 (c.in_ok-piece.ensures ∙ ap (λ (o : Option Piece). ok_of Fault (o, c.read_next_piece.new.cursor.rest.now)) c.in_default.is)
    ∙ ap (λ (z : List ℕ). ok_of Fault (z, c.read_next_piece.new.cursor.rest.now)) (sym i.1)
