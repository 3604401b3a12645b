use Rattle.std.proofs.Common.{◌*◌, ◌∙◌, ap, sym, length}
use Rattle.std.specs.List.{flat_map}
use Rattle.cm_text.specs.Ascii.{wide}
use Rattle.cm_text.proofs.AsciiLemmas.{latin1_utf16, length-wide}
use Rattle.cm_text.proofs.PairLemmas.{latin1_spelled}
use Rattle.cm_text.proofs.writes.latin1_to_utf16.Goals as goal

pub widen-requires : goal.widen-requires
widen-requires c =
    let xs = c.requires.scalars in
    sym c.requires.size_is ∙ ap length (latin1_utf16 xs c.requires.text.all) ∙ length-wide xs ∙ ap (λ ys. 2 * length ys) (sym (latin1_spelled xs) ∙ c.requires.text.is)

pub returns : goal.returns
returns c = λ cs text. c.widen.ensures ∙ ap (flat_map wide) (sym text.is ∙ latin1_spelled cs) ∙ sym (latin1_utf16 cs text.all)
