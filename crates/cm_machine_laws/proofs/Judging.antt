-- A row that is judged by an order of traps and their causes: it traps at the first cause that is
-- there, or finds no memory, or goes on where none is there. Each check of a row is one trap of the
-- order.
use Rattle.std.proofs.Common.{◌≡◌, ◌⊎◌, inl, inr, List, [], ◌∷◌, ◌++◌, refl, sym, ap, subst, ◌∙◌}
use Rattle.std.specs.List.{AllByRecursion}
use Rattle.cm_machine_model.specs.declared.event.Event.{Event}
use Rattle.cm_machine_model.specs.declared.event.Event.TheVariants as event
use Rattle.cm_machine_model.specs.declared.event.Trap.{Trap}
use Rattle.cm_machine_model.specs.declared.event.Trap.TheVariants as trap
use Rattle.cm_machine_model.specs.State.{State}
use Rattle.cm_machine_model.specs.Step.{Traps}
use Rattle.cm_machine_laws.specs.Causes.{IsFirst}

abbrev pub Causing : Type 1
Causing = Trap → Type 0

-- none of these has a cause
abbrev pub None : Causing → List Trap → Type 0
None cause ts = AllByRecursion (λ u. cause u → ⊥) ts

pub record TrapsFirst (order : List Trap) (cause : Causing) (e : Event) : Type 0 where
  pub t : Trap
  pub is : e ≡ event.Trapped t
  pub first : IsFirst order cause t

pub record LacksMemory (before : List Trap) (cause : Causing) (e : Event) : Type 0 where
  pub is : e ≡ event.Trapped trap.EngineMemory
  pub wants : cause trap.EngineMemory
  pub none : None cause before

pub record Passes (order : List Trap) (cause : Causing) (e : Event) : Type 0 where
  pub no_trap : (t : Trap) → e ≡ event.Trapped t → ⊥
  pub none : None cause order

abbrev pub Judged : List Trap → List Trap → Causing → Event → Type 0
Judged before behind cause e =
    TrapsFirst (before ++ behind) cause e ⊎ (LacksMemory before cause e ⊎ Passes (before ++ behind) cause e)

-- ---- an order, trap by trap

pub here : (before behind : List Trap) (cause : Causing) (e : Event) (t : Trap) → cause t → e ≡ event.Trapped t → Judged (t ∷ before) behind cause e
here before behind cause e t c is = inl (record {
  t = t;
  is = is;
  first = record { earlier = []; later = before ++ behind; in_order = refl; none_earlier = tt; present = c };
})

pub here_behind : (behind : List Trap) (cause : Causing) (e : Event) (t : Trap) → cause t → e ≡ event.Trapped t → Judged [] (t ∷ behind) cause e
here_behind behind cause e t c is = inl (record {
  t = t;
  is = is;
  first = record { earlier = []; later = behind; in_order = refl; none_earlier = tt; present = c };
})

pub next : (before behind : List Trap) (cause : Causing) (e : Event) (t : Trap) → (cause t → ⊥) → Judged before behind cause e → Judged (t ∷ before) behind cause e
next before behind cause e t no_cause (inl x) = inl (record {
  t = x.t;
  is = x.is;
  first = record {
    earlier = t ∷ x.first.earlier;
    later = x.first.later;
    in_order = ap (λ (ts : List Trap). t ∷ ts) x.first.in_order;
    none_earlier = (no_cause, x.first.none_earlier);
    present = x.first.present;
  };
})
next before behind cause e t no_cause (inr (inl x)) = inr (inl (record { is = x.is; wants = x.wants; none = (no_cause, x.none) }))
next before behind cause e t no_cause (inr (inr x)) = inr (inr (record { no_trap = x.no_trap; none = (no_cause, x.none) }))

pub next_behind : (behind : List Trap) (cause : Causing) (e : Event) (t : Trap) → (cause t → ⊥) → Judged [] behind cause e → Judged [] (t ∷ behind) cause e
next_behind behind cause e t no_cause (inl x) = inl (record {
  t = x.t;
  is = x.is;
  first = record {
    earlier = t ∷ x.first.earlier;
    later = x.first.later;
    in_order = ap (λ (ts : List Trap). t ∷ ts) x.first.in_order;
    none_earlier = (no_cause, x.first.none_earlier);
    present = x.first.present;
  };
})
next_behind behind cause e t no_cause (inr (inl x)) = inr (inl x)
next_behind behind cause e t no_cause (inr (inr x)) = inr (inr (record { no_trap = x.no_trap; none = (no_cause, x.none) }))

-- a list of traps of which none has a cause
pub skip : (ts behind : List Trap) (cause : Causing) (e : Event) → None cause ts → Judged [] behind cause e → Judged [] (ts ++ behind) cause e
skip [] behind cause e none x = x
skip (t ∷ ts) behind cause e none x = next_behind (ts ++ behind) cause e t none.0 (skip ts behind cause e none.1 x)

pub lacks : (behind : List Trap) (cause : Causing) (e : Event) → e ≡ event.Trapped trap.EngineMemory → cause trap.EngineMemory → Judged [] behind cause e
lacks behind cause e is wants = inr (inl (record { is = is; wants = wants; none = tt }))

pub passes : (behind : List Trap) (cause : Causing) (e : Event) → ((t : Trap) → e ≡ event.Trapped t → ⊥) → None cause behind → Judged [] behind cause e
passes behind cause e no_trap none = inr (inr (record { no_trap = no_trap; none = none }))

-- ---- a check

pub check : {P R : Type 0} (s : State) (before behind : List Trap) (cause : Causing) (e : Event) (new : State) (t : Trap)
    → ((P → ⊥) → cause t) → (P → cause t → ⊥) → ((P → ⊥) × Traps s t e new) ⊎ (P × R) → (P → R → Judged before behind cause e)
    → Judged (t ∷ before) behind cause e
check {P} {R} s before behind cause e new t fails holds (inl x) go = here before behind cause e t (fails x.0) x.1.0
check {P} {R} s before behind cause e new t fails holds (inr x) go = next before behind cause e t (holds x.0) (go x.0 x.1)

pub check_behind : {P R : Type 0} (s : State) (behind : List Trap) (cause : Causing) (e : Event) (new : State) (t : Trap)
    → ((P → ⊥) → cause t) → (P → cause t → ⊥) → ((P → ⊥) × Traps s t e new) ⊎ (P × R) → (P → R → Judged [] behind cause e)
    → Judged [] (t ∷ behind) cause e
check_behind {P} {R} s behind cause e new t fails holds (inl x) go = here_behind behind cause e t (fails x.0) x.1.0
check_behind {P} {R} s behind cause e new t fails holds (inr x) go = next_behind behind cause e t (holds x.0) (go x.0 x.1)

pub memory : {P R : Type 0} (s : State) (behind : List Trap) (cause : Causing) (e : Event) (new : State)
    → (P → cause trap.EngineMemory) → (P × Traps s trap.EngineMemory e new) ⊎ R → (R → Judged [] behind cause e) → Judged [] behind cause e
memory {P} {R} s behind cause e new wants (inl x) go = lacks behind cause e x.1.0 (wants x.0)
memory {P} {R} s behind cause e new wants (inr x) go = go x

-- ---- what a judgement says

abbrev trap_in : Event → Trap
trap_in (event.Trapped t) = t
trap_in e = trap.CoreShape

pub same_trap : (t u : Trap) → event.Trapped t ≡ event.Trapped u → t ≡ u
same_trap t u e = ap trap_in e

pub first_along : (cause : Causing) (order earlier later : List Trap) (t : Trap) (before behind : List Trap) (u : Trap)
    → earlier ++ t ∷ later ≡ before ++ u ∷ behind → None cause earlier → None cause before → cause t → cause u → t ≡ u
first_along cause order [] later t [] behind u is none1 none2 c d = head_is is where
  head_of : List Trap → Trap
  head_of [] = t
  head_of (x ∷ xs) = x

  head_is : t ∷ later ≡ u ∷ behind → t ≡ u
  head_is e = ap head_of e
first_along cause order [] later t (b ∷ before) behind u is none1 none2 c d = absurd (none2.0 (subst cause (head_is is) c)) where
  head_of : List Trap → Trap
  head_of [] = t
  head_of (x ∷ xs) = x

  head_is : t ∷ later ≡ b ∷ (before ++ u ∷ behind) → t ≡ b
  head_is e = ap head_of e
first_along cause order (a ∷ earlier) later t [] behind u is none1 none2 c d = absurd (none1.0 (subst cause (sym (head_is is)) d)) where
  head_of : List Trap → Trap
  head_of [] = a
  head_of (x ∷ xs) = x

  head_is : a ∷ (earlier ++ t ∷ later) ≡ u ∷ behind → a ≡ u
  head_is e = ap head_of e
first_along cause order (a ∷ earlier) later t (b ∷ before) behind u is none1 none2 c d =
    first_along cause order earlier later t before behind u (ap tail_of is) none1.1 none2.1 c d where
      tail_of : List Trap → List Trap
      tail_of [] = []
      tail_of (x ∷ xs) = xs

pub one_first : (order : List Trap) (cause : Causing) (t u : Trap) → IsFirst order cause t → IsFirst order cause u → t ≡ u
one_first order cause t u x y =
    first_along cause order x.earlier x.later t y.earlier y.later u (sym x.in_order ∙ y.in_order) x.none_earlier y.none_earlier x.present y.present

none_there : (cause : Causing) (earlier later : List Trap) (t : Trap) → None cause (earlier ++ t ∷ later) → cause t → ⊥
none_there cause [] later t none c = none.0 c
none_there cause (a ∷ earlier) later t none c = none_there cause earlier later t none.1 c

pub none_first : (order : List Trap) (cause : Causing) (t : Trap) → None cause order → IsFirst order cause t → ⊥
none_first order cause t none x = none_there cause x.earlier x.later t (subst (None cause) x.in_order none) x.present

-- the trap that comes is named
pub named : (before behind : List Trap) (cause : Causing) (e : Event) (t : Trap) → Judged before behind cause e → e ≡ event.Trapped t
    → IsFirst (before ++ behind) cause t ⊎ ((t ≡ trap.EngineMemory) × LacksMemory before cause e)
named before behind cause e t (inl x) is = inl (subst (IsFirst (before ++ behind) cause) (same_trap x.t t (sym x.is ∙ is)) x.first)
named before behind cause e t (inr (inl x)) is = inr (same_trap t trap.EngineMemory (sym is ∙ x.is), x)
named before behind cause e t (inr (inr x)) is = absurd (x.no_trap t is)

-- the first cause traps
pub refused : (before behind : List Trap) (cause : Causing) (e : Event) (t : Trap) → Judged before behind cause e → IsFirst (before ++ behind) cause t
    → (e ≡ event.Trapped t) ⊎ LacksMemory before cause e
refused before behind cause e t (inl x) first = inl (subst (λ (u : Trap). e ≡ event.Trapped u) (one_first (before ++ behind) cause x.t t x.first first) x.is)
refused before behind cause e t (inr (inl x)) first = inr x
refused before behind cause e t (inr (inr x)) first = absurd (none_first (before ++ behind) cause t x.none first)
