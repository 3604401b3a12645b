-- What is told of what adapters wrote before the latest event of the set that a handle keeps.
use Rattle.std.specs.Prelude.{List, Option, Some, None, Result, Ok, Err, length, map}
use Rattle.cm_abi_model.specs.declared.region.Region.{Region}
use Rattle.huxarte_c_calls.specs.Texts.{written}
use Rattle.huxarte_c.specs.PlayedSets.{PlayedSet}
use Rattle.huxarte_c.specs.declared.refusal.SetRefusal.{SetRefusal}
use Rattle.huxarte_c.specs.declared.refusal.SetRefusal.TheVariants as refusal
use Rattle.huxarte_c.specs.declared.telling.HuxRegion.{HuxRegion}
use Rattle.huxarte_c.specs.declared.telling.HuxWritten.{HuxWritten}

-- a region in numbers
abbrev pub region_in : Region → HuxRegion
region_in r = record { at = r.at; size = r.size }

-- how many regions, and of which instance's memory
abbrev pub written_in : PlayedSet → HuxWritten
written_in s = record { count = length s.regions; instance = s.instance }

abbrev pub written_seen : Option PlayedSet → Result HuxWritten SetRefusal
written_seen None = Err refusal.Empty
written_seen (Some s) = Ok (written_in s)

-- a buffer into which the regions were written, as many as there was room for; or what stood there
abbrev pub regions_or : List HuxRegion → Option PlayedSet → List HuxRegion
regions_or room None = room
regions_or room (Some s) = written room (map region_in s.regions)
