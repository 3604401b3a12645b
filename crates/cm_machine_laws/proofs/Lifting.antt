-- A lift, judged by the causes of its traps.
use Rattle.std.proofs.Common.{◌≡◌, ℕ, ◌+◌, ◌<◌, ◌≤◌, inl, inr, List, [], ◌∷◌, ◌++◌, length, refl, subst, arith}
use Rattle.std.specs.Prelude.{if◌then◌else◌}
use Rattle.cm_types.specs.declared.core_value.CoreValue.{CoreValue}
use Rattle.cm_types.specs.Types.{Fields, Ty}
use Rattle.cm_types.specs.Values.{Val}
use Rattle.cm_abi_model.specs.declared.fault.AbiFault.{AbiFault}
use Rattle.cm_abi_model.specs.declared.fault.AbiFault.TheVariants as fault
use Rattle.cm_abi_model.specs.Denotes.{Denotes}
use Rattle.cm_abi_model.specs.Faults.{abi_fault_number}
use Rattle.cm_abi_model.specs.LiftStops.{LiftStops}
use Rattle.cm_abi_model.specs.Parts.{handle_count, part_count}
use Rattle.cm_abi_model.specs.Receives.{HandleLeaf, leaves_in}
use Rattle.cm_abi_model.specs.Requests.{is_spilled, parts_of, tuple_of}
use Rattle.cm_abi_model.specs.Taken.{Transferable}
use Rattle.cm_abi_model.specs.Views.{View, Way}
use Rattle.cm_machine_model.specs.declared.event.Event.{Event}
use Rattle.cm_machine_model.specs.declared.event.Event.TheVariants as event
use Rattle.cm_machine_model.specs.declared.event.Trap.{Trap}
use Rattle.cm_machine_model.specs.declared.event.Trap.TheVariants as trap
use Rattle.cm_machine_model.specs.Passages.{IsScanned}
use Rattle.cm_machine_model.specs.Plan.{Link, types_of}
use Rattle.cm_machine_model.specs.State.{Passage, State}
use Rattle.cm_machine_model.specs.Step.{Lifts, MayWantMemory, trap_of}
use Rattle.cm_machine_laws.specs.Causes.{lift_traps}
use Rattle.std.specs.List.{AllByRecursion}
use Rattle.cm_machine_laws.proofs.Judging.{Causing, Judged, here_behind, lacks, next_behind}

-- ---- laws of the adapters

abbrev pub OneStop : Type 0
OneStop = (w : View) (way : Way) (types : Fields) (slots : List CoreValue) (f g : AbiFault) → LiftStops w way types slots f → LiftStops w way types slots g → f ≡ g

abbrev pub BesideNone : Type 0
BesideNone = (w : View) (way : Way) (types : Fields) (slots : List CoreValue) (f : AbiFault) (v : Val) → LiftStops w way types slots f → Denotes w way types slots v → Transferable w way types slots v → ⊥

abbrev pub HasNumber : Type 0
HasNumber = (w : View) (way : Way) (types : Fields) (slots : List CoreValue) (f : AbiFault) → LiftStops w way types slots f → (4 ≤ abi_fault_number f) × (abi_fault_number f ≤ 13)

abbrev pub OneDenoted : Type 0
OneDenoted = (w : View) (way : Way) (types : Fields) (slots : List CoreValue) (u v : Val) → Denotes w way types slots u → Denotes w way types slots v → u ≡ v

abbrev pub FewLeaves : Type 0
FewLeaves = (t : Ty) (v : Val) → length (leaves_in t v) ≤ handle_count v

pub record Laws : Type 0 where
  pub one_stop : OneStop
  pub beside : BesideNone
  pub number : HasNumber
  pub denoted : OneDenoted
  pub few : FewLeaves

-- ---- a lift that stops

-- of the traps of a lift this one alone has a cause
abbrev pub Only : Causing → Trap → Type 0
Only cause t = AllByRecursion (λ u. cause u → u ≡ t) lift_traps

pub stops_judged : (behind : List Trap) (cause : Causing) (e : Event) (f : AbiFault) → abi_fault_number f ≤ 13 → cause (trap_of f) → Only cause (trap_of f) → e ≡ event.Trapped (trap_of f)
    → Judged [] (lift_traps ++ behind) cause e
stops_judged behind cause e fault.Misaligned few c only is = here_behind _ cause e trap.Misaligned c is
stops_judged behind cause e fault.PointerBounds few c only is = next_behind _ cause e trap.Misaligned (λ x. cc (only.0 x)) (here_behind _ cause e trap.PointerBounds c is)
stops_judged behind cause e fault.BadChar few c only is = next_behind _ cause e trap.Misaligned (λ x. cc (only.0 x)) (next_behind _ cause e trap.PointerBounds (λ x. cc (only.1.0 x)) (here_behind _ cause e trap.BadChar c is))
stops_judged behind cause e fault.BadCase few c only is =
    next_behind _ cause e trap.Misaligned (λ x. cc (only.0 x)) (next_behind _ cause e trap.PointerBounds (λ x. cc (only.1.0 x)) (next_behind _ cause e trap.BadChar (λ x. cc (only.1.1.0 x)) (here_behind _ cause e trap.BadCase c is)))
stops_judged behind cause e fault.TooLarge few c only is =
    next_behind _ cause e trap.Misaligned (λ x. cc (only.0 x)) (next_behind _ cause e trap.PointerBounds (λ x. cc (only.1.0 x)) (next_behind _ cause e trap.BadChar (λ x. cc (only.1.1.0 x))
    (next_behind _ cause e trap.BadCase (λ x. cc (only.1.1.1.0 x)) (here_behind _ cause e trap.TooLarge c is))))
stops_judged behind cause e fault.BadText few c only is =
    next_behind _ cause e trap.Misaligned (λ x. cc (only.0 x)) (next_behind _ cause e trap.PointerBounds (λ x. cc (only.1.0 x)) (next_behind _ cause e trap.BadChar (λ x. cc (only.1.1.0 x))
    (next_behind _ cause e trap.BadCase (λ x. cc (only.1.1.1.0 x)) (next_behind _ cause e trap.TooLarge (λ x. cc (only.1.1.1.1.0 x)) (here_behind _ cause e trap.BadText c is)))))
stops_judged behind cause e fault.NoHandle few c only is =
    next_behind _ cause e trap.Misaligned (λ x. cc (only.0 x)) (next_behind _ cause e trap.PointerBounds (λ x. cc (only.1.0 x)) (next_behind _ cause e trap.BadChar (λ x. cc (only.1.1.0 x))
    (next_behind _ cause e trap.BadCase (λ x. cc (only.1.1.1.0 x)) (next_behind _ cause e trap.TooLarge (λ x. cc (only.1.1.1.1.0 x)) (next_behind _ cause e trap.BadText (λ x. cc (only.1.1.1.1.1.0 x)) (here_behind _ cause e trap.NoHandle c is))))))
stops_judged behind cause e fault.WrongResource few c only is =
    next_behind _ cause e trap.Misaligned (λ x. cc (only.0 x)) (next_behind _ cause e trap.PointerBounds (λ x. cc (only.1.0 x)) (next_behind _ cause e trap.BadChar (λ x. cc (only.1.1.0 x))
    (next_behind _ cause e trap.BadCase (λ x. cc (only.1.1.1.0 x)) (next_behind _ cause e trap.TooLarge (λ x. cc (only.1.1.1.1.0 x)) (next_behind _ cause e trap.BadText (λ x. cc (only.1.1.1.1.1.0 x))
    (next_behind _ cause e trap.NoHandle (λ x. cc (only.1.1.1.1.1.1.0 x)) (here_behind _ cause e trap.WrongResource c is)))))))
stops_judged behind cause e fault.StillLent few c only is =
    next_behind _ cause e trap.Misaligned (λ x. cc (only.0 x)) (next_behind _ cause e trap.PointerBounds (λ x. cc (only.1.0 x)) (next_behind _ cause e trap.BadChar (λ x. cc (only.1.1.0 x))
    (next_behind _ cause e trap.BadCase (λ x. cc (only.1.1.1.0 x)) (next_behind _ cause e trap.TooLarge (λ x. cc (only.1.1.1.1.0 x)) (next_behind _ cause e trap.BadText (λ x. cc (only.1.1.1.1.1.0 x))
    (next_behind _ cause e trap.NoHandle (λ x. cc (only.1.1.1.1.1.1.0 x)) (next_behind _ cause e trap.WrongResource (λ x. cc (only.1.1.1.1.1.1.1.0 x)) (here_behind _ cause e trap.StillLent c is))))))))
stops_judged behind cause e fault.NotOwned few c only is =
    next_behind _ cause e trap.Misaligned (λ x. cc (only.0 x)) (next_behind _ cause e trap.PointerBounds (λ x. cc (only.1.0 x)) (next_behind _ cause e trap.BadChar (λ x. cc (only.1.1.0 x))
    (next_behind _ cause e trap.BadCase (λ x. cc (only.1.1.1.0 x)) (next_behind _ cause e trap.TooLarge (λ x. cc (only.1.1.1.1.0 x)) (next_behind _ cause e trap.BadText (λ x. cc (only.1.1.1.1.1.0 x))
    (next_behind _ cause e trap.NoHandle (λ x. cc (only.1.1.1.1.1.1.0 x)) (next_behind _ cause e trap.WrongResource (λ x. cc (only.1.1.1.1.1.1.1.0 x)) (next_behind _ cause e trap.StillLent (λ x. cc (only.1.1.1.1.1.1.1.1.0 x))
    (here_behind _ cause e trap.NotOwned c is)))))))))
stops_judged behind cause e fault.TableFull few c only is = absurd (omega (arith, few))
stops_judged behind cause e fault.Overlap few c only is = absurd (omega (arith, few))
stops_judged behind cause e fault.EngineMemory few c only is = absurd (omega (arith, few))

-- ---- a value that has handles takes memory

no_length : (xs : List HandleLeaf) → length xs ≤ 0 → xs ≡ []
no_length [] le = refl
no_length (x ∷ xs) le = absurd (omega (arith, le))

none_left : (b n h : ℕ) → b + n + h ≡ 0 → h ≤ 0
none_left b n h e = omega (arith, e)

pub leaves_want : (laws : Laws) (w : View) (way : Way) (types : Fields) (slots : List CoreValue) (v : Val) → Denotes w way types slots v → (leaves_in (tuple_of types) v ≡ [] → ⊥)
    → MayWantMemory w way types slots
leaves_want laws w way types slots v denoted some u other none =
    let few : length (leaves_in (tuple_of types) u) ≤ 0 = le_both (laws.few (tuple_of types) u) (none_left (if is_spilled way types then 1 else 0) (part_count u) (handle_count u) none) in
    some (subst (λ (x : Val). leaves_in (tuple_of types) x ≡ []) (laws.denoted w way types slots u v other denoted) (no_length (leaves_in (tuple_of types) u) few)) where
      le_both : {a b : ℕ} → a ≤ b → b ≤ 0 → a ≤ 0
      le_both {a} {b} x y = omega (arith, x, y)

some_parts : (n : ℕ) → 0 < n → n ≡ 0 → ⊥
some_parts n lt e = absurd (omega (arith, lt, e))

pub parts_want : (laws : Laws) (w : View) (way : Way) (types : Fields) (slots : List CoreValue) (v : Val) → Denotes w way types slots v → 0 < parts_of way types v
    → MayWantMemory w way types slots
parts_want laws w way types slots v denoted some u other none =
    some_parts (parts_of way types v) some (subst (λ (x : Val). parts_of way types x ≡ 0) (laws.denoted w way types slots u v other denoted) none)

-- ---- a lift

pub lifts_judged : (behind : List Trap) (cause : Causing) (laws : Laws) (s : State) (w : View) (l : Link) (way : Way) (slots : List CoreValue)
    (row : Val → Passage → Event → State → Type 0) (e : Event) (new : State)
    → ((f : AbiFault) → LiftStops w way (types_of l way) slots f → cause (trap_of f) × Only cause (trap_of f))
    → (MayWantMemory w way (types_of l way) slots → cause trap.EngineMemory)
    → ((v : Val) (p : Passage) → Denotes w way (types_of l way) slots v → Transferable w way (types_of l way) slots v → IsScanned w l way slots v p → row v p e new
    → Judged [] (lift_traps ++ behind) cause e)
    → Lifts s w l way slots row e new → Judged [] (lift_traps ++ behind) cause e
lifts_judged behind cause laws s w l way slots row e new stops wants goes (inl x) =
    stops_judged behind cause e x.0 (laws.number w way (types_of l way) slots x.0 x.1).1 (stops x.0 x.1).0 (stops x.0 x.1).1 x.2.0
lifts_judged behind cause laws s w l way slots row e new stops wants goes (inr (inl x)) = lacks (lift_traps ++ behind) cause e x.1.0 (wants x.0)
lifts_judged behind cause laws s w l way slots row e new stops wants goes (inr (inr x)) = goes x.0 x.1 x.2 x.3 x.4 x.5
