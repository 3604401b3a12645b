-- Why each step keeps the machine valid.
use Rattle.std.proofs.Common.{◌≢◌, Some, subst}
use Rattle.std.specs.Prelude.{slice_get, true}
use Rattle.cm_machine_model.specs.declared.event.Event.{Event}
use Rattle.cm_machine_model.specs.declared.moves.Move.{Move}
use Rattle.cm_machine_laws.proofs.LendingLaws.{AreLent}
use Rattle.cm_machine_laws.proofs.OneCarried.{OneCarried}
use Rattle.cm_machine_model.specs.Plan.{Plan}
use Rattle.cm_machine_model.specs.State.{State}
use Rattle.cm_machine_model.specs.Step.{Step}
use Rattle.cm_machine_model.specs.Valid.{IsValidState}
use Rattle.cm_machine_laws.proofs.SoundTables.{TableLaws}
use Rattle.cm_machine_model.specs.History.{WritesBytes}
use Rattle.cm_machine_laws.proofs.LendsValid.{steps_lend}
use Rattle.cm_machine_laws.proofs.PlainKeeps.{has_from, has_one}
use Rattle.cm_machine_laws.proofs.StepPasses.{steps_pass}
use Rattle.cm_machine_laws.proofs.StepPlaces.{steps_keep}
use Rattle.cm_machine_laws.proofs.StepPlain as plain
use Rattle.cm_machine_laws.proofs.StepStacks.{steps_stand}
use Rattle.cm_machine_laws.proofs.Takes.{lift_takes}

from_valid : TableLaws → (plan : Plan) (s : State) → IsValidState plan s → plain.H plan s
from_valid laws plan s valid = (
  record {
    laws = laws;
    memories_are = valid.memories;
    tables_are = valid.tables;
    closed_are = valid.closed;
    small = valid.small;
    bytes = valid.bytes;
    sound = valid.sound;
    few = valid.few;
    opened = λ i a. let f = has_one s.stack i a in subst (λ n. slice_get s.closed n ≢ Some true) f.2 (valid.opened f.0 f.1);
  },
  record { stand = λ i k h e. valid.made i k h e; leaves = valid.leaves_made },
)

pub stays_valid : TableLaws → OneCarried → (plan : Plan) (s : State) (m : Move) (e : Event) (new : State) → IsValidState plan s → WritesBytes m → Step plan s m e new → IsValidState plan new
stays_valid laws one plan s m e new valid bytes x =
    let p : plain.H plan new = plain.steps_plain laws.add plan s m e new valid.stack (from_valid laws plan s valid) bytes x in
    let l : AreLent new = steps_lend laws.add plan s m e new valid x in
    record {
      linked = valid.linked;
      memories = p.0.memories_are;
      tables = p.0.tables_are;
      closed = p.0.closed_are;
      small = p.0.small;
      bytes = p.0.bytes;
      sound = p.0.sound;
      few = p.0.few;
      stack = steps_stand plan s m e new valid x;
      opened = λ f c. p.0.opened f.instance (has_from new.stack f c);
      passes = steps_pass one plan s m e new valid x;
      one_place = steps_keep lift_takes laws.add plan s m e new valid x;
      counted = l.counted;
      to_calls = l.to_calls;
      borrowed = l.borrowed;
      lent_out = l.lent_out;
      made = λ i k h e. p.1.stand i k h e;
      leaves_made = p.1.leaves;
    }
