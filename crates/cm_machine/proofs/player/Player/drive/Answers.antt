use Rattle.std.proofs.Common.{[]}
use Rattle.cm_lemmas.proofs.Results.{if_ok_more}
use Rattle.cm_machine_model.specs.declared.event.Event.TheVariants as event
use Rattle.cm_machine_set.specs.Running.{begun}
use Rattle.cm_machine.proofs.Forgets.{drive_forgets, halt_forgets, if_err_more}
use Rattle.cm_machine.proofs.player.Player.drive.Goals as goal

pub returns-clause-drive : goal.returns-clause-drive
returns-clause-drive g c =
    if_ok_more c.drive_seeing.result _ _ c.drive_seeing.ensures.drive
    (λ events d. drive_forgets (λ b rest. (goal.Guest-dyn g (b.vtable, b.value)).plays b.value rest) c.args.root c.args.limit (begun c.args.set.now c.args.root) c.args.seats.now.items events.items c.drive_seeing.new.set c.drive_seeing.new.seats.items d)

pub returns-clause-halt : goal.returns-clause-halt
returns-clause-halt g c =
    if_err_more c.drive_seeing.result _ _ c.drive_seeing.ensures.halt
    (λ m h is. halt_forgets (λ b rest. (goal.Guest-dyn g (b.vtable, b.value)).plays b.value rest) (begun c.args.set.now c.args.root) (event.Resume c.args.root []) c.args.seats.now.items c.args.limit c.drive_seeing.new.set c.drive_seeing.new.seats.items (h is))
