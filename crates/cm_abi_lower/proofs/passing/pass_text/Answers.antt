use Rattle.std.proofs.Common.{rules, refl}
use Rattle.cm_abi_store.specs.Storing.{given_of}
use Rattle.cm_abi_lower.proofs.passing.pass_text.Goals as goal

pub returns : goal.returns
returns g c =
    let told = c.text_size-size.ensures _ (given_of c.args.to.now) c.requires.ready.0 _ refl c.requires.ready.1 in
    let units = c.units_stored-units.ensures (g.S.ValueSource.scalars c.args.source) told.1 in
    record {
      slots = rw (told.0, c.pass_pointer-place.ensures.slots, units) refl;
      stored = search rules;
      stays = search rules;
      slots_stay = search rules;
      part = search rules;
      handle = search rules;
    }
