-- What check each form of the code's is.
use Rattle.std.proofs.Common.{◌≡◌, ℕ, map, Vec, Global, rules}
use Rattle.std.specs.declared.sync.Arc.{Arc}
use Rattle.cm_layout.specs.declared.heads.Head.{Head}
use Rattle.cm_layout.specs.declared.layouts.HandleType.{HandleType}
use Rattle.cm_abi_programs.specs.Checks.{char_check, below_check, text_check, list_check, each_check, cases_check, handle_check, part_check}
use Rattle.cm_abi_programs.specs.Coded.{case_of, cases_from, check_of, checks_in}
use Rattle.cm_abi_programs.specs.declared.checks.CaseChecks.{CaseChecks as CodedCase, out-CaseChecks}
use Rattle.cm_abi_programs.specs.declared.checks.Check.{Check as CodedCheck, the_lemmas}
use Rattle.cm_abi_programs.specs.declared.checks.Check.TheViews as view
use Rattle.cm_abi_programs.specs.declared.checks.Check.TheVariants as variant

pub seen_Char : (at : ℕ) → check_of (variant.Char at) ≡ char_check at
seen_Char at = search (rules, the_lemmas)

pub seen_Below : (at b n : ℕ) → check_of (variant.Below at b n) ≡ below_check at b n
seen_Below at b n = search (rules, the_lemmas)

pub seen_Text : (at : ℕ) → check_of (variant.Text at) ≡ text_check at
seen_Text at = search (rules, the_lemmas)

pub seen_List : (at : ℕ) (e : Head) (cs : Arc (Vec CodedCheck Global) Global) → check_of (view.List at e cs) ≡ list_check at e (checks_in cs.value.items)
seen_List at e cs = search (rules, the_lemmas)

pub seen_Each : (at d n : ℕ) (cs : Arc (Vec CodedCheck Global) Global) → check_of (view.Each at d n cs) ≡ each_check at d n (checks_in cs.value.items)
seen_Each at d n cs = search (rules, the_lemmas)

pub seen_Cases : (at b d : ℕ) (cs : Arc (Vec CodedCase Global) Global) → check_of (view.Cases at b d cs) ≡ cases_check at b d (cases_from (map case_of cs.value.items))
seen_Cases at b d cs = search (rules, the_lemmas)

-- what a case has, made and taken apart
pub seen_case : (cs : Arc (Vec CodedCheck Global) Global) → case_of (view.roll-CaseChecks (record { checks = cs })) ≡ checks_in cs.value.items
seen_case cs = search (rules, the_lemmas)

pub case_is : (c : CodedCase) → case_of c ≡ checks_in (out-CaseChecks c).checks.value.items
case_is c = search (rules, the_lemmas)

pub seen_Handle : (at : ℕ) (h : HandleType) → check_of (variant.Handle at h) ≡ handle_check at h
seen_Handle at h = search (rules, the_lemmas)

pub seen_Part : (at : ℕ) (cs : Arc (Vec CodedCheck Global) Global) → check_of (view.Part at cs) ≡ part_check at (checks_in cs.value.items)
seen_Part at cs = search (rules, the_lemmas)
