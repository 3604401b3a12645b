use Rattle.std.proofs.Common.{refl}
use Rattle.cm_validate_entries.proofs.RoomLaws.{same_stays}
use Rattle.cm_validate_entries.proofs.spaces.ComponentSpaces.reserve_imports.Goals as goal

pub returns : goal.returns
returns c = same_stays c.args.self.now _ c.reserve.ensures.items refl refl c.reserve-2.ensures.items c.reserve-3.ensures refl (λ name. refl)
