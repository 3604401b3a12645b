use Rattle.std.proofs.Common.{◌+◌, refl, length}
use Rattle.cm_abi_model.specs.Numbers.{number_at}
use Rattle.cm_abi_running.specs.Copying.{copying_of, shown_to}
use Rattle.cm_abi_copy.proofs.CopyLemmas.{each_counted, elements_sound}
use Rattle.cm_abi_copy.proofs.place.PlaceStoredSource.elements.Goals as goal

pub returns : goal.returns
returns c = λ n g e element sh k h ready.
    let m = c.args.self.from.now.memory.now in
    rw (c.number_32-pointer.ensures, c.number_32-count.ensures, c.behind.ensures) (
      refl,
      each_counted (shown_to (copying_of c.args.self.from.now) sh) element.size (number_at 4 m (c.args.self.at + 4)) (number_at 4 m c.args.self.at),
      ready.1.1,
      (elements_sound (length m) c.args.self.at e element sh ready.0, ready.1.0, ready.1.2),
    )
