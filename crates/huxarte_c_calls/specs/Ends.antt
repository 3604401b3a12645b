-- How C is told that a command ended (this project's own choice).
use Rattle.std.specs.Prelude.{ℕ, Result, Ok, Err}
use Rattle.huxarte_c_calls.specs.declared.words.CommandFault.{CommandFault}

-- the exit status: that of a command that ran, else 0
abbrev pub status_of : Result ℕ CommandFault → ℕ
status_of (Ok status) = status
status_of (Err fault) = 0
