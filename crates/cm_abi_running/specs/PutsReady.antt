-- Whether what puts move can be copied (CanonicalABI.md, "Loading" and "Storing").
use Rattle.std.specs.Prelude.{ℕ, zero, suc, ◌+◌, ◌*◌, ◌<◌, ◌≤◌, ⊤, length}
use Rattle.cm_handles.specs.Handles.{no_handles}
use Rattle.cm_abi_load.specs.Reading.{Source}
use Rattle.cm_abi_model.specs.Numbers.{number_at}
use Rattle.cm_abi_model.specs.Stores.{place_of}
use Rattle.cm_abi_programs.specs.Puts.{Put, Puts, CasePuts, no_puts, put, no_cases, case}
use Rattle.cm_abi_programs.specs.Puts.{run_put, truth_put, flags_put, text_put, list_put}
use Rattle.cm_abi_programs.specs.Puts.{each_put, cases_put, handle_put, part_put}
use Rattle.cm_abi_running.specs.Putting.{Written, all_written, written}
use Rattle.cm_abi_store.specs.Fitting.{HasRoom}
use Rattle.cm_abi_running.specs.Copying.{Copying}
use Rattle.cm_abi_running.specs.Known.{source_with}
use Rattle.cm_abi_running.specs.Ready.{IsTextReady}

-- what puts are run over: they look into no handle table
abbrev pub seen_from : Copying → Source
seen_from c = source_with c no_handles

-- what a run of puts from one address to another, from the part and the handle of these numbers on,
-- asks for, and what it comes to
abbrev pub Asks : Type 1
Asks = ℕ → ℕ → ℕ → ℕ → Type 0

abbrev pub Runs : Type 0
Runs = ℕ → ℕ → ℕ → ℕ → Written

-- so many values in a row can be copied
abbrev pub AreEachPutReady : Asks → Runs → ℕ → ℕ → ℕ → ℕ → ℕ → ℕ → Type 0
AreEachPutReady R W d zero p q k h = ⊤
AreEachPutReady R W d (suc m) p q k h =
    R p q k h
    × AreEachPutReady R W d m (p + d) (q + d) (W p q k h).part (W p q k h).handle

-- so many elements at a pointer can be copied as the part of this number
abbrev pub IsListPutReady : ℕ → Copying → Asks → Runs → ℕ → ℕ → ℕ → ℕ → ℕ → Type 0
IsListPutReady n c R W d at count k h =
    (at + count * d ≤ length c.memory)
    × HasRoom n c.given k (count * d)
    × AreEachPutReady R W d count at (place_of c.given k) (k + 1) h

abbrev mutual
  -- what a put moves from one address to another can be copied: what its pointers lead to lies in
  -- the source, and its strings are texts; each of its parts, from the one of this number on, has a
  -- place in a memory of so many bytes, and each of its handles a number
  pub IsPutReady : ℕ → Copying → Put → ℕ → ℕ → ℕ → ℕ → Type 0
  IsPutReady n c (run_put at m) p q k h = ⊤
  IsPutReady n c (truth_put at) p q k h = ⊤
  IsPutReady n c (flags_put at b labels) p q k h = ⊤
  IsPutReady n c (text_put at) p q k h =
      IsTextReady n c (number_at 4 c.memory (p + at)) (number_at 4 c.memory (p + at + 4)) k
  IsPutReady n c (list_put at d cs) p q k h =
      IsListPutReady n c (ArePutsReady n c cs) (all_written (seen_from c) c.given cs) d
      (number_at 4 c.memory (p + at)) (number_at 4 c.memory (p + at + 4)) k h
  IsPutReady n c (each_put at d m cs) p q k h =
      AreEachPutReady (ArePutsReady n c cs) (all_written (seen_from c) c.given cs) d m (p + at)
      (q + at) k h
  IsPutReady n c (cases_put at b d cs) p q k h =
      IsCasePutReady n c cs (number_at b c.memory (p + at)) (p + at + d) (q + at + d) k h
  IsPutReady n c (handle_put at) p q k h = h < length c.given.numbers
  IsPutReady n c (part_put at cs) p q k h = ArePutsReady n c cs (p + at) (q + at) k h

  -- by each put, in order
  pub ArePutsReady : ℕ → Copying → Puts → ℕ → ℕ → ℕ → ℕ → Type 0
  ArePutsReady n c no_puts p q k h = ⊤
  ArePutsReady n c (put x cs) p q k h =
      IsPutReady n c x p q k h
      × ArePutsReady n c cs p q (written (seen_from c) c.given x p q k h).part
      (written (seen_from c) c.given x p q k h).handle

  -- what the case of this number carries
  pub IsCasePutReady : ℕ → Copying → CasePuts → ℕ → ℕ → ℕ → ℕ → ℕ → Type 0
  IsCasePutReady n c no_cases i p q k h = ⊤
  IsCasePutReady n c (case cs rest) zero p q k h = ArePutsReady n c cs p q k h
  IsCasePutReady n c (case cs rest) (suc i) p q k h = IsCasePutReady n c rest i p q k h
