use Rattle.huxarte_c.proofs.WrittenLaws.{regions_written}
use Rattle.huxarte_c.proofs.telling.write_regions.Goals as goal

pub returns : goal.returns
returns c = regions_written c.args.room.now _ c.args.regions.now c.min-count.result c.min-count.ensures c.put_front.ensures
