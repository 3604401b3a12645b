-- Why what goes on is followed by each step.
use Rattle.std.proofs.Common.{◌≡◌, ℕ, zero, suc, ◌+◌, ◌<◌, ◌≤◌, List, [], ◌∷◌, ◌++◌, length, Option, Some, None, refl, sym, ap, ◌∙◌, arith, append-nil}
use Rattle.std.specs.Prelude.{slice_get, slice_set, unwrap_or, map}
use Rattle.std.proofs.lemmas.Option.{none-some}
use Rattle.cm_types.specs.CoreValues.{kind_of}
use Rattle.cm_types.specs.declared.core_value.CoreKind.{CoreKind}
use Rattle.cm_types.specs.declared.core_value.CoreKind.TheVariants as kind
use Rattle.cm_types.specs.declared.core_value.CoreValue.{CoreValue}
use Rattle.cm_types.specs.declared.core_value.CoreValue.TheVariants as core_value
use Rattle.cm_abi_model.specs.declared.request.Request.{Request}
use Rattle.cm_abi_model.specs.Numbers.{slot_at}
use Rattle.cm_abi_model.specs.Answering.{places_of}
use Rattle.cm_machine_model.specs.Memories.{memory_at}
use Rattle.cm_machine_model.specs.declared.frame.Frame.{Frame}
use Rattle.cm_machine_model.specs.Plan.{Plan}
use Rattle.cm_machine_model.specs.State.{State}
use Rattle.cm_machine_model.specs.Step.{AreOf, one_i32}
use Rattle.cm_machine_laws.specs.Causes.{MayCall}
use Rattle.cm_machine_laws.specs.Doing.{Asked, Doing, answer_of, body, destroys, handing, placing, root, tidying, with_answer}
use Rattle.cm_machine_laws.specs.Matching.{AllMatch}
use Rattle.cm_machine_laws.specs.Told.{AsksFor, answers_in, one_answer}
use Rattle.cm_machine_laws.specs.Following.{AreBelow, AreFollowed, IsOneOpen}
use Rattle.cm_lemmas.proofs.Lists.{length_push}

-- ---- what goes on below

-- below what may call, all is known that has to be
pub below_of : (s : State) (ds : List Doing) → MayCall ds → AreFollowed s ds → AreBelow ds
below_of s [] may f = tt
below_of s (root i ∷ ds) may f = (tt, f.1)
below_of s (placing x asked ∷ ds) may f = absurd may
below_of s (body x asked ∷ ds) may f = (f.0, f.1)
below_of s (handing x asked r more ∷ ds) may f = absurd may
below_of s (tidying x asked r more ∷ ds) may f = absurd may
below_of s (destroys dropper i ∷ ds) may f = (tt, f.1)

-- and when it is the latest again
pub resumed : (new : State) (ds : List Doing) → AreBelow ds → AreFollowed new ds
resumed new [] b = tt
resumed new (root i ∷ ds) b = (tt, b.1)
resumed new (placing x asked ∷ ds) b = absurd b.0
resumed new (body x asked ∷ ds) b = (b.0, b.1)
resumed new (handing x asked r more ∷ ds) b = absurd b.0
resumed new (tidying x asked r more ∷ ds) b = absurd b.0
resumed new (destroys dropper i ∷ ds) b = (tt, b.1)

pub stays_followed : (s new : State) (ds : List Doing) → MayCall ds → AreFollowed s ds → AreFollowed new ds
stays_followed s new ds may f = resumed new ds (below_of s ds may f)

-- below the latest
pub rest_of : (s : State) (d : Doing) (ds : List Doing) → AreFollowed s (d ∷ ds) → AreBelow ds
rest_of s d ds f = f.1

-- something goes on where a frame stands
pub some_below : (plan : Plan) (s : State) (top : Frame) (fs : List Frame) (ds : List Doing) → AllMatch plan (top ∷ fs) ds → AreFollowed s ds → (d : Doing) × (rest : List Doing) × (ds ≡ d ∷ rest) × AreBelow rest
some_below plan s top fs [] m f = absurd m
some_below plan s top fs (d ∷ rest) m f = (d, rest, refl, f.1)

-- ---- memories

other_kept : (ms : List (List ℕ)) (i j : ℕ) (m : List ℕ) → (j ≡ i → ⊥) → slice_get (slice_set ms i m) j ≡ slice_get ms j
other_kept [] i j m ne = refl
other_kept (x ∷ ms) zero zero m ne = absurd (ne refl)
other_kept (x ∷ ms) zero (suc j) m ne = refl
other_kept (x ∷ ms) (suc i) zero m ne = refl
other_kept (x ∷ ms) (suc i) (suc j) m ne = other_kept ms i j m (λ e. ne (ap suc e))

pub memory_kept : (ms : List (List ℕ)) (i j : ℕ) (m : List ℕ) → (j ≡ i → ⊥) → memory_at (slice_set ms i m) j ≡ memory_at ms j
memory_kept ms i j m ne = ap (λ (o : Option (List ℕ)). unwrap_or o []) (other_kept ms i j m ne)

-- ---- requests and answers

pub one_value : (values : List CoreValue) → AreOf one_i32 values → answer_of values ≡ Some (slot_at values 0)
one_value [] e = absurd (differ e) where
  differ : [] ≡ kind.I32 ∷ [] → ⊥
  differ x = cc (x)
one_value (core_value.I32 n ∷ cs) e = refl
one_value (core_value.I64 n ∷ cs) e = absurd (differ (map kind_of cs) e) where
  differ : (ks : List CoreKind) → kind.I64 ∷ ks ≡ kind.I32 ∷ [] → ⊥
  differ ks x = cc (x)

-- the unanswered request is answered
pub answered_in : (values : List CoreValue) (asked : List Asked) → AreOf one_i32 values → IsOneOpen asked → answers_in (with_answer values asked) ≡ answers_in asked ++ slot_at values 0 ∷ []
answered_in values [] of unanswered = absurd unanswered
answered_in values (a ∷ earlier) of unanswered =
    ap (λ (o : Option ℕ). answers_in earlier ++ one_answer o) (one_value values of)
    ∙ ap (λ (xs : List ℕ). xs ++ slot_at values 0 ∷ []) (sym (ap (λ (o : Option ℕ). answers_in earlier ++ one_answer o) unanswered.0 ∙ append-nil (answers_in earlier)))

pub answered_length : (values : List CoreValue) (asked : List Asked) → length (with_answer values asked) ≡ length asked
answered_length values [] = refl
answered_length values (a ∷ earlier) = refl

pub answered_asks : (rs : List Request) (before : List ℕ) (values : List CoreValue) (asked : List Asked) → AsksFor rs before asked → AsksFor rs before (with_answer values asked)
answered_asks rs before values [] x = x
answered_asks rs before values (a ∷ earlier) x = x

-- how many answers there are once the unanswered request is answered
pub answered_count : (values : List CoreValue) (asked : List Asked) → AreOf one_i32 values → IsOneOpen asked → length (answers_in (with_answer values asked)) ≡ length asked
answered_count values [] of unanswered = absurd unanswered
answered_count values (a ∷ earlier) of unanswered =
    ap (λ (o : Option ℕ). length (answers_in earlier ++ one_answer o)) (one_value values of) ∙ (length_push (answers_in earlier) (slot_at values 0) ∙ ap suc unanswered.1)

pub past_end : (rs : List Request) (n : ℕ) → slice_get rs n ≡ None → length rs ≤ n
past_end [] n e = omega arith
past_end (r ∷ rs) zero e = absurd (none-some r (sym e))
past_end (r ∷ rs) (suc n) e = omega (arith, past_end rs n e)

pub within : (rs : List Request) (n : ℕ) (r : Request) → slice_get rs n ≡ Some r → n < length rs
within [] n r e = absurd (none-some r e)
within (x ∷ rs) zero r e = omega arith
within (x ∷ rs) (suc n) r e = omega (arith, within rs n r e)

pub no_places : (rs : List Request) → [] ≡ places_of rs []
no_places [] = refl
no_places (r ∷ rs) = refl

pub open_count : (asked : List Asked) → IsOneOpen asked → length asked ≡ suc (length (answers_in asked))
open_count [] unanswered = absurd unanswered
open_count (a ∷ earlier) unanswered =
    ap suc (sym unanswered.1) ∙ ap (λ (xs : List ℕ). suc (length xs)) (sym (ap (λ (o : Option ℕ). answers_in earlier ++ one_answer o) unanswered.0 ∙ append-nil (answers_in earlier)))
