-- The first fault of all, from the first of each reason.
use Rattle.std.specs.Prelude.{◌≡◌, ◌≤◌, ◌⊎◌, ℕ, List, Option, Some, None, take, MatchOption}
use Rattle.cm_wit_tokens.specs.declared.fault.WitReason.{WitReason}
use Rattle.cm_wit_graph.specs.Graphs.{ReachesItself}
use Rattle.cm_wit_names.specs.Mentions.{Mention}
use Rattle.cm_wit_names.specs.Known.{IsAt, edges}
use Rattle.cm_wit_names.specs.Rules.{IsFirstFault, IsLeast, IsTaken, IsUnknown, LeadsToBorrow}

-- a place is not behind another one, if there is one
abbrev pub NotBehind : ℕ → Option ℕ → Type 0
NotBehind p other = MatchOption other (Unit {0}) (λ q. p ≤ q)

-- The lesser of two places, if there is one.
abbrev pub IsLesser : Option ℕ → Option ℕ → Option ℕ → Type 0
IsLesser a b lesser = MatchOption lesser ((a ≡ None) × (b ≡ None))
    (λ p. NotBehind p a × NotBehind p b × ((a ≡ Some p) ⊎ (b ≡ Some p)))

-- The first of each reason: a borrow, a name that is taken, one that is unknown, and a cycle.
pub record Firsts (ms : List Mention) (b d u c : Option ℕ) : Type 0 where
  pub borrow : IsLeast (λ n. IsAt ms n (LeadsToBorrow ms)) b
  pub duplicate : IsLeast (λ n. IsAt ms n (IsTaken (take n ms))) d
  pub unknown : IsLeast (λ n. IsAt ms n (λ m. IsUnknown ms m.refers)) u
  pub cycle : IsLeast (ReachesItself (edges ms)) c

-- The first fault, if there is one.
pub record IsFirst (ms : List Mention) (fault : Option (ℕ × WitReason)) : Type 0 where
  pub is : IsFirstFault ms fault
