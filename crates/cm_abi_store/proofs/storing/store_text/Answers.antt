use Rattle.std.proofs.Common.{rules, sym, refl}
use Rattle.cm_abi_model.specs.Requests.{stored_charset, text_bytes, text_units}
use Rattle.cm_abi_model.specs.Stores.{place_of, placed, pointer_bytes}
use Rattle.cm_abi_store.specs.Storing.{given_of}
use Rattle.cm_abi_store.specs.WalkLaws.{poke_both}
use Rattle.cm_abi_store.proofs.storing.store_text.Goals as goal

pub returns : goal.returns
returns g c =
    let place = place_of (given_of c.args.to.now) c.args.next.now.part in
    let charset = stored_charset c.args.to.now.encoding in
    let cs = g.S.ValueSource.scalars c.args.source in
    let told = c.text_size-size.ensures _ (given_of c.args.to.now) c.requires.ready.0 _ refl c.requires.ready.1 in
    let units = c.units_stored-units.ensures cs told.1 in
    record {
      stored =
          rw (told.0, c.write_text.ensures.stored, c.store_pointer-place.ensures.place, c.store_pointer-place.ensures.stored, units)
          (sym (poke_both (pointer_bytes c.args.at place (text_units charset cs)) (placed place (text_bytes charset cs)) c.args.memory.now));
      stays = search rules;
      part = search rules;
      handle = search rules;
    }
