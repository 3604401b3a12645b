use Rattle.std.proofs.Common.{◌≡◌, drop}
use Rattle.cm_names.specs.Hash.{hash_from, hash_of}
use Rattle.cm_names.proofs.hash.hash.Given as goal

-- what is left is added
abbrev pub invariant-loop-byte : goal.invariant-loop-byte
invariant-loop-byte l = hash_from l.hash (drop l.byte-index l.text) ≡ hash_of l.text
