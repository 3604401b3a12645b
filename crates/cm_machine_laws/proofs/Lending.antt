-- Why what is lent is lent to the calls that go on.
use Rattle.std.proofs.Common.{◌≡◌, ℕ, suc, ◌+◌, ◌<◌, ◌≤◌, Bool, true, false, List, [], ◌∷◌, ◌++◌}
use Rattle.std.proofs.Common.{length, refl, sym, ap, subst, ◌∙◌, arith, append-nil}
use Rattle.std.specs.Prelude.{⊤, not, ◌==◌, if◌then◌else◌}
use Rattle.std.proofs.lemmas.Bool.{eq-eqb, ne_eqb}
use Rattle.std.proofs.lemmas.List.Elements.{filter-append}
use Rattle.cm_abi_model.specs.Taken.{lent_of}
use Rattle.cm_machine_laws.specs.Told.{met_at_call}
use Rattle.cm_machine_model.specs.declared.frame.Call.{Call}
use Rattle.cm_machine_model.specs.declared.frame.Phase.{Phase}
use Rattle.cm_machine_model.specs.declared.frame.Phase.TheVariants as phase
use Rattle.cm_machine_model.specs.declared.frame.Purpose.{Purpose}
use Rattle.cm_machine_model.specs.declared.frame.Purpose.TheVariants as purpose
use Rattle.cm_machine_laws.specs.Matching.{MatchIn, AllMatch, MatchOne}
use Rattle.cm_machine_model.specs.declared.frame.Frame.{Frame}
use Rattle.cm_machine_model.specs.declared.frame.Lend.{Lend}
use Rattle.cm_machine_model.specs.Plan.{Plan}
use Rattle.cm_machine_model.specs.State.{lends_after_call, lends_to}
use Rattle.cm_machine_laws.specs.Doing.{Doing, LoweredCall, body, destroys, handing, placing, root}
use Rattle.cm_machine_laws.specs.Doing.{tidying}
use Rattle.cm_machine_laws.specs.Lent.{AreLent, LentBy, LentTo}

-- each of these lends is to a frame below this place
abbrev pub AllUnder : ℕ → List Lend → Type 0
AllUnder n [] = ⊤
AllUnder n (l ∷ ls) = (l.frame < n) × AllUnder n ls

under_append : (n : ℕ) (xs ys : List Lend) → AllUnder n xs → AllUnder n ys → AllUnder n (xs ++ ys)
under_append n [] ys x y = y
under_append n (l ∷ xs) ys x y = (x.0, under_append n xs ys x.1 y)

under_more : (n k : ℕ) (xs : List Lend) → n ≤ k → AllUnder n xs → AllUnder k xs
under_more n k [] le x = tt
under_more n k (l ∷ xs) le x = (omega (arith, le, x.0), under_more n k xs le x.1)

under_to : (frame i : ℕ) (is : List ℕ) → AllUnder (suc frame) (lends_to frame i is)
under_to frame i [] = tt
under_to frame i (k ∷ is) = (omega arith, under_to frame i is)

-- the end of a call leaves the lends to frames below
not_this : (n : ℕ) (l : Lend) (xs ys : List Lend) (b : Bool) → b ≡ false → xs ≡ ys → (if not b then l ∷ xs else xs) ≡ l ∷ ys
not_this n l xs ys true e same = absurd (differ e) where
  differ : true ≡ false → ⊥
  differ z = cc (z)
not_this n l xs ys false e same = ap (λ (zs : List Lend). l ∷ zs) same

kept_under : (n : ℕ) (xs : List Lend) → AllUnder n xs → lends_after_call n xs ≡ xs
kept_under n [] x = refl
kept_under n (l ∷ xs) x = not_this n l (lends_after_call n xs) xs (l.frame == n) (ne_eqb l.frame n (λ e. omega (arith, e, x.0))) (kept_under n xs x.1)

-- and none of its own
this_one : (l : Lend) (xs : List Lend) (b : Bool) → b ≡ true → xs ≡ [] → (if not b then l ∷ xs else xs) ≡ []
this_one l xs true e none = none
this_one l xs false e none = absurd (differ e) where
  differ : false ≡ true → ⊥
  differ z = cc (z)

none_to : (n i : ℕ) (is : List ℕ) → lends_after_call n (lends_to n i is) ≡ []
none_to n i [] = refl
none_to n i (k ∷ is) = this_one (record { frame = n; instance = i; index = k }) (lends_after_call n (lends_to n i is)) (n == n) (eq-eqb n n refl) (none_to n i is)

-- ---- what is lent to what goes on

of_call : (n : ℕ) (x : LoweredCall) (back : List Lend) → x.place ≡ n → LentTo x back → AllUnder (suc n) back
of_call n x back at to =
    subst (AllUnder (suc n)) (sym to.2) (subst (λ (k : ℕ). AllUnder (suc k) (lends_to x.place x.caller (lent_of (met_at_call x to.0)))) at (under_to x.place x.caller (lent_of (met_at_call x to.0))))

placed_by : (pu : Purpose) (plan : Plan) (i n : ℕ) (d : Doing) (back : List Lend) → MatchOne pu plan i n d → LentBy d back → AllUnder (suc n) back
placed_by pu plan i n (root j) back m are = subst (AllUnder (suc n)) (sym are) tt
placed_by (purpose.Call call) plan i n (placing x asked) back m are = of_call n x back (at_phase call.phase m) are where
  at_phase : (ph : Phase) → MatchIn ph plan i call n (placing x asked) → x.place ≡ n
  at_phase phase.Arguments c = c.placed
  at_phase ph c = absurd c
placed_by (purpose.Call call) plan i n (body x asked) back m are = of_call n x back (at_phase call.phase m) are where
  at_phase : (ph : Phase) → MatchIn ph plan i call n (body x asked) → x.place ≡ n
  at_phase phase.Body c = c.placed
  at_phase ph c = absurd c
placed_by (purpose.Call call) plan i n (handing x asked r more) back m are = of_call n x back (at_phase call.phase m) are where
  at_phase : (ph : Phase) → MatchIn ph plan i call n (handing x asked r more) → x.place ≡ n
  at_phase phase.Results c = c.placed
  at_phase ph c = absurd c
placed_by (purpose.Call call) plan i n (tidying x asked r more) back m are = of_call n x back (at_phase call.phase m) are where
  at_phase : (ph : Phase) → MatchIn ph plan i call n (tidying x asked r more) → x.place ≡ n
  at_phase (phase.PostReturn v) c = c.placed
  at_phase ph c = absurd c
placed_by pu plan i n (destroys dropper j) back m are = subst (AllUnder (suc n)) (sym are) tt
placed_by pu plan i n d back m are = absurd m

pub all_under : (plan : Plan) (fs : List Frame) (ds : List Doing) (ls : List Lend) → AllMatch plan fs ds → AreLent ds ls → AllUnder (length fs) ls
all_under plan [] [] ls m are = subst (AllUnder 0) (sym are) tt
all_under plan [] (d ∷ ds) ls m are = absurd m
all_under plan (f ∷ fs) [] ls m are = absurd m
all_under plan (f ∷ fs) (d ∷ ds) ls m are =
    subst (AllUnder (suc (length fs))) (sym are.2)
    (under_append (suc (length fs)) are.0 are.1 (under_more (length fs) (suc (length fs)) are.0 (omega arith) (all_under plan fs ds are.0 m.1 are.3)) (placed_by f.purpose plan f.instance (length fs) d are.1 m.0 are.4))

-- the end of a call leaves what is lent to those below
pub ends_lent : (plan : Plan) (fs : List Frame) (ds : List Doing) (x : LoweredCall) (front back ls : List Lend) (n : ℕ) → AllMatch plan fs ds → n ≡ length fs → x.place ≡ n → ls ≡ front ++ back → AreLent ds front → LentTo x back
    → AreLent ds (lends_after_call n ls)
ends_lent plan fs ds x front back ls n m size at is are to =
    subst (AreLent ds) (sym all) are where
      own : lends_after_call n back ≡ []
      own = ap (λ (ys : List Lend). lends_after_call n ys) to.2 ∙ (ap (λ (k : ℕ). lends_after_call n (lends_to k x.caller (lent_of (met_at_call x to.0)))) at ∙ none_to n x.caller (lent_of (met_at_call x to.0)))

      all : lends_after_call n ls ≡ front
      all =
          ap (λ (ys : List Lend). lends_after_call n ys) is
          ∙ (filter-append (λ (l : Lend). not (l.frame == n)) front back
          ∙ (ap (λ (ys : List Lend). lends_after_call n front ++ ys) own
          ∙ (append-nil (lends_after_call n front)
          ∙ kept_under n front (subst (λ (k : ℕ). AllUnder k front) (sym size) (all_under plan fs ds front m are)))))
