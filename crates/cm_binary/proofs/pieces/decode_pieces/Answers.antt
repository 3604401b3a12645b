use Rattle.cm_binary.proofs.ComeLaws.{joined_decoded}
use Rattle.cm_binary.proofs.pieces.decode_pieces.Goals as goal

pub returns-in-Ok : goal.returns-in-Ok
returns-in-Ok c = joined_decoded c.deref.result.now c.in-Ok.file.items _ c.decode.result c.deref.ensures.value c.in-Ok.ensures c.decode.ensures.found c.decode.ensures.fault
