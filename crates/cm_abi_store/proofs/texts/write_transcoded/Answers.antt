use Rattle.std.proofs.Common.{◌≡◌, ◌+◌, ◌≤◌, ◌-◌, ◌∙◌, ap, sym, length, arith}
use Rattle.std.specs.List.{flat_map}
use Rattle.cm_abi_store.proofs.BytesLemmas.{part_written}
use Rattle.cm_abi_store.proofs.texts.write_transcoded.Goals as goal

pub returns-clause-stored : goal.returns-clause-stored
returns-clause-stored g c = λ scalars text.
    let same = c.one_list_of_scalars.ensures c.requires.text.scalars scalars c.args.bytes.now c.requires.text.text text in
    let long : length (flat_map g.D.Source.spell scalars) ≡ c.args.size = ap (λ cs. length (flat_map g.D.Source.spell cs)) (sym same) ∙ c.requires.text.size_is in
    let size : c.args.at + c.args.size - c.args.at ≡ length (flat_map g.D.Source.spell scalars) = omega (arith, long) in
    let inside : c.args.at + length (flat_map g.D.Source.spell scalars) ≤ length c.args.memory.now = omega (arith, long, c.requires.inside) in
    part_written c.args.at _ c.args.memory.now c.transcode_into.new.out (flat_map g.D.Source.spell scalars) (c.transcode_into.ensures scalars text) size inside
