-- What running puts does to a memory (CanonicalABI.md, "Loading" and "Storing").
use Rattle.std.specs.Prelude.{◌≡◌, ℕ, ◌+◌, ◌≤◌, List, length}
use Rattle.cm_abi_model.specs.Numbers.{number_at}
use Rattle.cm_abi_model.specs.Stores.{bytes_of, placed, poke}
use Rattle.cm_abi_programs.specs.Puts.{CasePuts, Put, Puts}
use Rattle.cm_abi_running.specs.Putting.{Written, all_written, case_written, written, written_bytes}
use Rattle.cm_abi_running.specs.Putting.{list_written, scalars_of_text, text_written, written_each}
use Rattle.cm_abi_running.specs.Putting.{written_then}
use Rattle.cm_abi_store.specs.declared.target.Next.{Next}
use Rattle.cm_abi_running.specs.Copying.{Copying}
use Rattle.cm_abi_running.specs.PutsReady.{Runs, seen_from}
use Rattle.cm_abi_running.specs.PutsWithin.{ArePutsWithin, IsPutWithin}

-- What a put, or each of these, reads and writes of values that begin at an address of a source and
-- at one of a memory lies within so many bytes of each.
pub record LiesBetween (c : Put) (p source q memory : ℕ) : Type 0 where
  pub size : ℕ
  pub within : IsPutWithin size c
  pub read : p + size ≤ source
  pub room : q + size ≤ memory

pub record LieBetween (cs : Puts) (p source q memory : ℕ) : Type 0 where
  pub size : ℕ
  pub within : ArePutsWithin size cs
  pub read : p + size ≤ source
  pub room : q + size ≤ memory

-- what puts, and what one put, come to over what values are copied from
abbrev pub running : Copying → Puts → Runs
running c cs = all_written (seen_from c) c.given cs

abbrev pub running_one : Copying → Put → Runs
running_one c x = written (seen_from c) c.given x

-- what a string comes to whose pointer and length stand at an address
abbrev pub running_text : Copying → Runs
running_text c p q k h =
    text_written c.given
    (scalars_of_text (seen_from c) (number_at 4 c.memory p) (number_at 4 c.memory (p + 4))) q k h

-- what a list comes to whose pointer and length stand at an address, of elements that take so many
-- bytes
abbrev pub running_list : Copying → Puts → ℕ → Runs
running_list c cs d p q k h =
    list_written c.given (running c cs) d (number_at 4 c.memory p) (number_at 4 c.memory (p + 4))
    q k h

-- These bytes were written and no other, and the part and the handle that come next are these.
pub record Writes (a : Written) (after : Next) (old new : List ℕ) : Type 0 where
  -- each of the bytes stands at its address, and each other byte is what it was
  pub stored : new ≡ poke a.bytes old
  -- the memory is as long as it was
  pub stays : length new ≡ length old
  pub part : after.part ≡ a.part
  pub handle : after.handle ≡ a.handle
