use Rattle.std.proofs.Common.{◌≤◌, inl, inr, length}
use Rattle.std.proofs.lemmas.Bool.{cases_lt}
use Rattle.cm_names.specs.Listed.{listed}
use Rattle.cm_wit_worlds.specs.InterfaceViews.{placed_interface}
use Rattle.cm_wit_signature.proofs.LedLaws.{none_led}
use Rattle.cm_wit_signature.proofs.led_worlds.instance_led.Goals as goal

pub returns-in-None : goal.returns-in-None
returns-in-None c =
    let past : length c.args.interfaces.now ≤ c.args.instance.now.interface = elim (cases_lt c.args.instance.now.interface (length c.args.interfaces.now)) [
      | inl lt ↦ absurd (let e = c.in-None.ensures.lookup.2 lt in cc)
      | inr le ↦ le
    ] in
    none_led placed_interface (listed c.args.names.keys.now) c.args.names.marks.now c.args.names.list c.args.interfaces.now c.args.instance.now.interface past
