-- Steps of listing puts.
use Rattle.std.specs.Prelude.{◌≡◌, Option, Some, None}
use Rattle.cm_abi_programs.specs.CodedPuts.{put_of}
use Rattle.cm_abi_programs.specs.Puts.{Put, one_put, put_then, two_puts}
use Rattle.cm_abi_programs.specs.declared.puts.Put.{Put as CodedPut}

-- the put that two are together, if they are one
abbrev pub IsJoined : Put → Put → Option CodedPut → Type 0
IsJoined c d None = put_then c d ≡ two_puts c d
IsJoined c d (Some e) = put_then c d ≡ one_put (put_of e)
