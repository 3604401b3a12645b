use Rattle.cm_abi_running.specs.Copying.{copying_of}
use Rattle.cm_abi_running.proofs.PuttingLemmas.{text_writes}
use Rattle.cm_abi_running.proofs.putting.put_text.Goals as goal

pub returns : goal.returns
returns c =
    text_writes (copying_of c.args.from.now) c.args.source c.args.at c.args.next.now.part c.args.next.now.handle
    c.store_pointer-place.new.next c.args.memory.now c.store_pointer-place.new.memory c.write_text_at.new.memory
    c.size_of_part-size.result c.units_stored-units.result c.store_pointer-place.result c.number_32-pointer.result c.number_32-tagged.result
    c.number_32-pointer.ensures c.number_32-tagged.ensures c.size_of_part-size.ensures c.requires.ready.size c.units_stored-units.ensures
    c.store_pointer-place.ensures.place c.store_pointer-place.ensures.stored c.write_text_at.ensures.stored
    c.store_pointer-place.ensures.stays c.write_text_at.ensures.stays c.store_pointer-place.ensures.part c.store_pointer-place.ensures.handle
