-- What put each form of the code's is.
use Rattle.std.proofs.Common.{◌≡◌, ℕ, map, Vec, Global, rules}
use Rattle.std.specs.declared.sync.Arc.{Arc}
use Rattle.cm_abi_programs.specs.Puts.{run_put, truth_put, flags_put, text_put, list_put, each_put, cases_put, handle_put, part_put}
use Rattle.cm_abi_programs.specs.CodedPuts.{case_of, case_puts_from, put_of, puts_in}
use Rattle.cm_abi_programs.specs.declared.puts.CasePuts.{CasePuts as CodedCase, out-CasePuts}
use Rattle.cm_abi_programs.specs.declared.puts.Put.{Put as CodedPut, the_lemmas}
use Rattle.cm_abi_programs.specs.declared.puts.Put.TheViews as view
use Rattle.cm_abi_programs.specs.declared.puts.Put.TheVariants as variant

pub seen_Truth : (at : ℕ) → put_of (variant.Truth at) ≡ truth_put at
seen_Truth at = search (rules, the_lemmas)

pub seen_Flags : (at b n : ℕ) → put_of (variant.Flags at b n) ≡ flags_put at b n
seen_Flags at b n = search (rules, the_lemmas)

pub seen_Run : (at n : ℕ) → put_of (variant.Run at n) ≡ run_put at n
seen_Run at n = search (rules, the_lemmas)

pub seen_Text : (at : ℕ) → put_of (variant.Text at) ≡ text_put at
seen_Text at = search (rules, the_lemmas)

pub seen_List : (at d : ℕ) (cs : Arc (Vec CodedPut Global) Global) → put_of (view.List at d cs) ≡ list_put at d (puts_in cs.value.items)
seen_List at d cs = search (rules, the_lemmas)

pub seen_Each : (at d n : ℕ) (cs : Arc (Vec CodedPut Global) Global) → put_of (view.Each at d n cs) ≡ each_put at d n (puts_in cs.value.items)
seen_Each at d n cs = search (rules, the_lemmas)

pub seen_Cases : (at b d : ℕ) (cs : Arc (Vec CodedCase Global) Global) → put_of (view.Cases at b d cs) ≡ cases_put at b d (case_puts_from (map case_of cs.value.items))
seen_Cases at b d cs = search (rules, the_lemmas)

-- what a case has, made and taken apart
pub seen_case : (cs : Arc (Vec CodedPut Global) Global) → case_of (view.roll-CasePuts (record { puts = cs })) ≡ puts_in cs.value.items
seen_case cs = search (rules, the_lemmas)

pub case_is : (c : CodedCase) → case_of c ≡ puts_in (out-CasePuts c).puts.value.items
case_is c = search (rules, the_lemmas)

pub seen_Handle : (at : ℕ) → put_of (variant.Handle at) ≡ handle_put at
seen_Handle at = search (rules, the_lemmas)

pub seen_Part : (at : ℕ) (cs : Arc (Vec CodedPut Global) Global) → put_of (view.Part at cs) ≡ part_put at (puts_in cs.value.items)
seen_Part at cs = search (rules, the_lemmas)
