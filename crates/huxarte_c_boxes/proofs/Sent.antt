-- What is kept may go to another thread where the value may.
use Rattle.std.specs.Prelude.{Option, Some, None}
use mir.Raw.{raw}
use base.Shift.{Keyless}
use denote.RattleType.{RattleType}
use denote.Memory.{lone}
use denote.RawPtr.{Ptr}
use denote.Param.Send.{IsSend}
use Rattle.std_alloc.proofs.SendSync.{lies}
use Rattle.std.proofs.Crossing.{frees}
use Rattle.huxarte_c_boxes.specs.Keeping.{keeps}

pub keeps_keyless : (R : RattleType) → IsSend R → (p : Ptr) (x : Option R.Denot) → Keyless (keeps R p x)
keeps_keyless R s p None = λ _. tt
keeps_keyless R s p (Some x) = λ heap. (lies R s p x, frees.frees heap (raw (lone R.mir)) p)
