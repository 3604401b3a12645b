use Rattle.std.proofs.Common.{◌+◌, refl}
use Rattle.cm_types.specs.declared.limits.TheConstants.{MAX_FLAT_PARAMS}
use Rattle.cm_abi_model.specs.Numbers.{wrapped_at}
use Rattle.cm_abi_running.specs.Copying.{copying_of, shown_to}
use Rattle.cm_abi_copy.proofs.FlatLemmas.{each_counted, elements_sound}
use Rattle.cm_abi_copy.proofs.slots.SlotsPassedSource.stored_elements.Goals as goal

pub returns : goal.returns
returns c = λ n g e element sh k h ready.
    let slots = c.args.self.given.now in
    let at = c.args.self.at in
    rw (ready.0, c.number_32-pointer.ensures, c.number_32-count.ensures) (
      refl,
      each_counted (shown_to (copying_of c.args.self.from.now) sh) element.size (wrapped_at 4 slots (at + 1)) (wrapped_at 4 slots at),
      ready.2.1,
      (elements_sound MAX_FLAT_PARAMS at e element sh ready.1, ready.2.0, ready.2.2),
    )
