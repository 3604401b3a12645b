use Rattle.std.proofs.Common.{◌≤◌, inl, inr, map, length, ap, arith}
use Rattle.std.proofs.lemmas.Bool.{cases_lt}
use Rattle.std.proofs.lemmas.List.{length-map}
use Rattle.cm_wit_worlds.specs.InterfaceViews.{files_of, placed_interface}
use Rattle.cm_wit_tables.specs.DeclaredViews.{declaration_view, instance_view}
use Rattle.cm_wit_tables.specs.Placings.{instances_in}
use Rattle.cm_wit_tables.proofs.PlaceLaws.{nothing_declared}
use Rattle.cm_wit_tables.proofs.world_declarations.add_instance.Goals as goal

pub returns-in_default : goal.returns-in_default
returns-in_default c =
    let past : length c.args.interfaces.now ≤ c.args.instance.interface = elim (cases_lt c.args.instance.interface (length c.args.interfaces.now)) [
      | inl lt ↦ absurd (let e = c.in_default.ensures.lookup.2 lt in cc)
      | inr le ↦ le
    ] in
    let all = ap length c.requires in
    nothing_declared (files_of c.args.directory.now.files.items) (instances_in c.args.placing.now) c.args.list (instance_view c.args.instance) (map declaration_view c.args.out.now.items) (omega (arith, past, length-map c.args.interfaces.now placed_interface, all))
