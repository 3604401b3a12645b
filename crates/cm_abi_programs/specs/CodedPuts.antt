-- The puts that the code's are.
use Rattle.std.specs.Prelude.{List, [], ◌∷◌, map}
use Rattle.std.specs.declared.alloc.Global.{Global}
use Rattle.std.specs.declared.sync.Arc.{Arc}
use Rattle.std.specs.declared.vec.Vec.{Vec}
use Rattle.cm_abi_programs.specs.Puts.{Put, Puts, CasePuts, no_puts, put, no_cases, case}
use Rattle.cm_abi_programs.specs.Puts.{run_put, truth_put, flags_put, text_put, list_put}
use Rattle.cm_abi_programs.specs.Puts.{each_put, cases_put, handle_put, part_put}
use Rattle.cm_abi_programs.specs.declared.puts.Put.{Put as CodedPut}
use Rattle.cm_abi_programs.specs.declared.puts.Put.TheOpen as coded
use Rattle.cm_abi_programs.specs.declared.puts.Put.TheFolds.{fold-Put, fold-CasePuts}
use Rattle.cm_abi_programs.specs.declared.puts.CasePuts.{CasePuts as CodedCase}

-- puts from a list
abbrev pub puts_from : List Put → Puts
puts_from [] = no_puts
puts_from (c ∷ cs) = put c (puts_from cs)

-- the puts of what each case carries, from a list
abbrev pub case_puts_from : List Puts → CasePuts
case_puts_from [] = no_cases
case_puts_from (cs ∷ rest) = case cs (case_puts_from rest)

-- a put, and what a case has, given the puts in it
abbrev pub put_step : coded.Put-F Put Puts → Put
put_step (coded.Run at n) = run_put at n
put_step (coded.Truth at) = truth_put at
put_step (coded.Flags at b n) = flags_put at b n
put_step (coded.Text at) = text_put at
put_step (coded.List at d cs) = list_put at d (puts_from cs.value.items)
put_step (coded.Each at d n cs) = each_put at d n (puts_from cs.value.items)
put_step (coded.Cases at b d cs) = cases_put at b d (case_puts_from cs.value.items)
put_step (coded.Handle at) = handle_put at
put_step (coded.Part at cs) = part_put at (puts_from cs.value.items)

abbrev pub case_step : coded.CasePuts-F Put Puts → Puts
case_step c = puts_from c.puts.value.items

-- the put that a put of the code is, and the puts of a case
abbrev pub put_of : CodedPut → Put
put_of = fold-Put Put Puts put_step case_step

abbrev pub case_of : CodedCase → Puts
case_of = fold-CasePuts Put Puts put_step case_step

-- and the puts that those of a list are
abbrev pub puts_in : List CodedPut → Puts
puts_in cs = puts_from (map put_of cs)

-- those of each list
abbrev pub put_lists : List (Arc (Vec CodedPut Global) Global) → List Puts
put_lists cs = map (λ c. puts_in c.value.items) cs
