use Rattle.std.proofs.Common.{[], ◌∷◌, refl}
use Rattle.cm_abi_load.specs.Outcomes.{state_of}
use Rattle.cm_abi_load.specs.Reading.{read_text, source_of}
use Rattle.cm_abi_load.specs.Records.{text_record}
use Rattle.cm_abi_running.proofs.AsciiLemmas.{ascii_looks}
use Rattle.cm_abi_running.proofs.LookingLemmas.{looked_of}
use Rattle.cm_abi_running.proofs.looking.look_at_text.Goals as goal

pub returns : goal.returns
returns c =
    looked_of (λ v. text_record c.args.reader.now.giver.encoding c.args.reader.now.maker.target c.args.pointer c.args.tagged v ∷ []) (read_text c.args.reader.now.giver.memory.now c.args.reader.now.giver.encoding c.args.pointer c.args.tagged (state_of c.args.progress.now))
    c.args.records.now.items c.text.new.kept.items (state_of c.args.progress.now) (state_of c.text.new.progress) c.text.result c.text.ensures

pub returns-then-is_short_ascii : goal.returns-then-is_short_ascii
returns-then-is_short_ascii c =
    ascii_looks (source_of c.args.reader.now.giver) c.args.reader.now.maker.target c.args.pointer c.args.tagged c.args.records.now.items c.keep.new.kept.items (state_of c.args.progress.now) c.keep.result
    (c.if-is_short_ascii.ensures refl) (rw c.from.ensures at c.keep.ensures.ok) c.keep.ensures.err
