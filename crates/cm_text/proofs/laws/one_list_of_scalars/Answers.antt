use Rattle.cm_text.proofs.TextLemmas.{one_text}
use Rattle.cm_text.proofs.laws.one_list_of_scalars.Goals as goal

pub returns : goal.returns
returns g c =
    let met = g.met.S.Source in
    one_text g.S.Source.has g.S.Source.spell (record { some_byte = met.some_byte; one_spelling = met.one_spelling })
