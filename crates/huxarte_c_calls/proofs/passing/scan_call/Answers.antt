use Rattle.std.proofs.Common.{◌≡◌, ◌⊎◌, ◌∙◌, refl, ap, subst, sym}
use Rattle.cm_layout.specs.Layouts.{layout_of}
use Rattle.cm_abi_model.specs.LiftStops.{LiftStops}
use Rattle.cm_abi_model.specs.Views.{params}
use Rattle.cm_abi_model.specs.Ways.{way_of}
use Rattle.cm_abi_model.specs.Scanned.{ScansCall}
use Rattle.cm_abi_model.specs.declared.fault.AbiFault.TheVariants as fault
use Rattle.huxarte_c_calls.specs.Calls.{view_of}
use Rattle.huxarte_c_calls.proofs.passing.scan_call.Goals as goal

pub returns-in-Ok : goal.returns-in-Ok
returns-in-Ok c = λ handles types are is.
    let on = c.passed_by.ensures in
    let target = c.args.call.now.encodings.target in
    let w = view_of c.args.call.now c.args.memory.now handles in
    let scans = c.in-Ok.ensures.scans w types (record { memory_is = refl; table_is = sym are; encoding_is = refl }) (ap layout_of on.layout ∙ is.layout) in (
      scans.0,
      subst (λ slots. ScansCall w target params types slots scans.0 c.scan.new.table.handles c.scan.new.kept) on.slots
          (subst (λ way. ScansCall w target (way_of way) types c.passed_by.result.slots.now scans.0 c.scan.new.table.handles c.scan.new.kept) on.way scans.1),
    )

pub returns-in-Err : goal.returns-in-Err
returns-in-Err c = λ handles types are is.
    let on = c.passed_by.ensures in
    let w = view_of c.args.call.now c.args.memory.now handles in
    let f = c.in-Err.fault in
    let why = (c.in-Err.ensures.scans w types (record { memory_is = refl; table_is = sym are; encoding_is = refl }) (ap layout_of on.layout ∙ is.layout)).first in
    subst (λ slots. (f ≡ fault.EngineMemory) ⊎ LiftStops w params types slots f) on.slots
    (subst (λ way. (f ≡ fault.EngineMemory) ⊎ LiftStops w (way_of way) types c.passed_by.result.slots.now f) on.way why)
