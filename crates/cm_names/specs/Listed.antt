-- The keys that a table lists.
use Rattle.std.specs.Prelude.{List, map}
use Rattle.cm_names.specs.declared.keys.Keys.{Keys}
use Rattle.cm_names.specs.Keys.{Key, key_view}

abbrev pub listed : Keys → List Key
listed k = map key_view k.keys.items
