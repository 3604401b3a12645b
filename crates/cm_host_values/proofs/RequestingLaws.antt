-- What an allocator of a range answers in a memory that reaches its end.
use Rattle.std.proofs.Common.{◌≡◌, ℕ, suc, ◌⊎◌, inl, inr, List, [], ◌∷◌, ◌++◌, length, drop, refl, ap, sym, subst, arith}
use Rattle.std.proofs.lemmas.List.{append-nil}
use Rattle.cm_abi_model.specs.declared.request.Request.{Request}
use Rattle.cm_machine_guests.specs.Regions.{HasRoom, IsAnswer}
use Rattle.cm_machine_guests.specs.declared.bump.Bump.{Bump}
use Rattle.cm_machine_guests.specs.declared.bump.Room.{Room}
use Rattle.cm_machine_guests.specs.declared.bump.Room.TheVariants as room
use Rattle.cm_host_values.specs.Answers.{AreAnswers}

-- where the memory reaches the end of the range, nothing has to grow
no_growth : (old : Bump) (size align bytes pages : ℕ) (r : Room) (new : Bump) → r ≡ room.Grow pages → bytes ≡ old.end → IsAnswer old size align bytes r new
    → (HasRoom old size align → ⊥) × (new ≡ old)
no_growth old size align bytes pages r new is end answer =
    let grows = subst (λ x. IsAnswer old size align bytes x new) is answer in
    let least = grows.2.least 0 grows.1 in
    ((λ has. let inside = has.inside in absurd (omega (arith, least, inside, end))), grows.3)

pub no_room : (old : Bump) (size align bytes : ℕ) (r : Room) (new : Bump) → ((pages : ℕ) × (r ≡ room.Grow pages)) ⊎ (r ≡ room.Full) → bytes ≡ old.end → IsAnswer old size align bytes r new
    → (HasRoom old size align → ⊥) × (new ≡ old)
no_room old size align bytes r new (inl is) end answer = no_growth old size align bytes is.0 r new is.1 end answer
no_room old size align bytes r new (inr is) end answer = subst (λ x. IsAnswer old size align bytes x new) is answer

-- where no request is left, all are answered
pub all_done : (old b : Bump) (rs : List Request) (i : ℕ) (done : List ℕ) → drop i rs ≡ []
    → ((rest : List ℕ) (new : Bump) → AreAnswers b (drop i rs) rest new → AreAnswers old rs (done ++ rest) new) → AreAnswers old rs done b
all_done old b rs i done none so_far = subst (λ xs. AreAnswers old rs xs b) (append-nil done) (so_far [] b (subst (λ ds. AreAnswers b ds [] b) (sym none) refl))

-- there are as many answers as requests
pub as_many : (old : Bump) (rs : List Request) (answers : List ℕ) (new : Bump) → AreAnswers old rs answers new → length answers ≡ length rs
as_many old [] [] new h = refl
as_many old (r ∷ rs) (a ∷ answers) new h = ap (λ n. suc n) (as_many h.0 rs answers new h.2)
as_many old [] (a ∷ answers) new h = absurd h
as_many old (r ∷ rs) [] new h = absurd h
