-- Why a call of a set does nothing, in numbers (this project's own choice).
use Rattle.std.specs.Prelude.{ℕ}
use Rattle.cm_handles.specs.Faults.{handle_fault_number}
use Rattle.cm_machine_model.specs.Numbers.{misuse_number}
use Rattle.huxarte_c_calls.specs.declared.kinds.HuxKind.TheVariants as kind
use Rattle.huxarte_c_calls.specs.declared.verdicts.HuxVerdict.{HuxVerdict}
use Rattle.huxarte_c_calls.specs.Verdicts.{of_kind}
use Rattle.huxarte_c_components.specs.Linking.{of_link}
use Rattle.huxarte_c.specs.declared.refusal.HuxSetKind.{HuxSetKind}
use Rattle.huxarte_c.specs.declared.refusal.HuxSetKind.TheVariants as set_kind
use Rattle.huxarte_c.specs.declared.refusal.SetRefusal.{SetRefusal}
use Rattle.huxarte_c.specs.declared.refusal.SetRefusal.TheVariants as refusal

-- the number by which a kind is known
abbrev pub kind_number : HuxSetKind → ℕ
kind_number set_kind.Empty = 27
kind_number set_kind.Full = 28
kind_number set_kind.Misuse = 29
kind_number set_kind.NoKind = 30
kind_number set_kind.NoInstance = 31
kind_number set_kind.NoHandle = 32

-- what is wrong, for a reason, at a place
abbrev pub at_place : HuxSetKind → ℕ → ℕ → HuxVerdict
at_place k reason place =
    record { kind = kind_number k; reason = reason; file = 0; place = place; item = 0 }

-- why a call of a set does nothing
abbrev pub of_set : SetRefusal → HuxVerdict
of_set refusal.Empty = at_place set_kind.Empty 0 0
of_set refusal.Full = at_place set_kind.Full 0 0
of_set (refusal.Link r) = of_link r
of_set (refusal.Misuse m) = at_place set_kind.Misuse (misuse_number m) 0
of_set (refusal.NoKind place) = at_place set_kind.NoKind 0 place
of_set refusal.NoInstance = at_place set_kind.NoInstance 0 0
of_set refusal.Outside = of_kind kind.Outside
of_set (refusal.NoHandle f) = at_place set_kind.NoHandle (handle_fault_number f) 0
of_set refusal.Memory = of_kind kind.Memory
