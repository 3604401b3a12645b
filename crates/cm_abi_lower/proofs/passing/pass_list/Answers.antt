use Rattle.std.proofs.Common.{rules, refl}
use Rattle.cm_abi_store.specs.Storing.{given_of}
use Rattle.cm_abi_lower.proofs.passing.pass_list.Goals as goal

pub store_row-requires-clause-inside : goal.store_row-requires-clause-inside
store_row-requires-clause-inside g c =
    let told = c.stored_elements-elements.ensures _ (given_of c.args.to.now) _ _ _ _ _ c.requires.ready.1 in
    rw c.pass_pointer-place.ensures.place told.2.1

pub store_row-requires-clause-ready : goal.store_row-requires-clause-ready
store_row-requires-clause-ready g c =
    let told = c.stored_elements-elements.ensures _ (given_of c.args.to.now) _ _ _ _ _ c.requires.ready.1 in
    rw (c.pass_pointer-place.ensures.part, c.pass_pointer-place.ensures.handle) told.3

pub returns : goal.returns
returns g c =
    let told = c.stored_elements-elements.ensures _ (given_of c.args.to.now) _ _ _ _ _ c.requires.ready.1 in
    record {
      slots = rw (told.0, c.pass_pointer-place.ensures.slots, told.1) refl;
      stored = rw (told.0, c.store_row.ensures.stored, c.pass_pointer-place.ensures.place, c.pass_pointer-place.ensures.part, c.pass_pointer-place.ensures.handle) refl;
      stays = c.store_row.ensures.stays;
      slots_stay = c.pass_pointer-place.ensures.slots_stay;
      part = search rules;
      handle = search rules;
    }
