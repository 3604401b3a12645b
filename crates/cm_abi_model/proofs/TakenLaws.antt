-- What a table has once all that was met in a value was handed over.
use Rattle.std.proofs.Common.{◌≡◌, ◌≢◌, ℕ, zero, suc, ◌+◌, ◌-◌, ◌⊎◌, inl, inr, List, [], ◌∷◌, ◌++◌, Option, Some, None, refl, sym, ap, subst, ◌∙◌, arith}
use Rattle.std.specs.Prelude.{Contains, ◌==◌, cond, reverse}
use Rattle.std.specs.Option.{option_map}
use Rattle.std.proofs.lemmas.Bool.{cases_eq, eq-eqb, ne_eqb}
use Rattle.std.proofs.lemmas.Grind.{reverse_onto}
use Rattle.std.proofs.lemmas.List.{append_assoc}
use Rattle.std.proofs.lemmas.List.Recursion.{is_count_by}
use Rattle.cm_handles.specs.Changes.{ReleasesFrom, WritesLends}
use Rattle.cm_handles.specs.Handles.{Handles, IsSoundHandles, after_lend, after_release, handle_at, with_lends}
use Rattle.cm_handles.specs.declared.handle.Handle.{Handle}
use Rattle.cm_abi_model.specs.Taken.{Met, content, text_content, taken, lent, after_met, after_one, taken_of, lent_of, GoesInTurn}
use Rattle.cm_abi_model.specs.Handed.{IsHanded, times}
use Rattle.cm_lemmas.proofs.Lists.{Contains-first, Contains-rest}
use Rattle.cm_handles.proofs.HandleLaws.{none_is}

-- what the laws on tables promise
pub record Laws : Type 0 where
  pub release : (t : Handles) (index : ℕ) (h : Handle) → IsSoundHandles t → handle_at t index ≡ Some h → ReleasesFrom t index
  pub lend : (t : Handles) (index : ℕ) (h : Handle) → IsSoundHandles t → handle_at t index ≡ Some h → WritesLends t (after_lend t index) index h (h.lends + 1)

first_or_rest : (x : ℕ) (xs : List ℕ) (y : ℕ) → Contains (x ∷ xs) y → (x ≡ y) ⊎ Contains xs y
first_or_rest x xs y (zero, within, e) = inl e
first_or_rest x xs y (suc k, within, e) = inr (k, omega (arith, within), e)

-- lent so often more
abbrev more : ℕ → Handle → Handle
more n h = with_lends (h.lends + n) h

more_none : (o : Option Handle) → o ≡ option_map (more 0) o
more_none None = refl
more_none (Some h) =
    let same : h.lends ≡ h.lends + 0 = omega arith in
    let here : h ≡ with_lends h.lends h = refl in
    ap Some here ∙ ap (λ n. Some (with_lends n h)) same

more_twice : (n : ℕ) (h : Handle) → option_map (more n) (Some (with_lends (h.lends + 1) h)) ≡ Some (with_lends (h.lends + (1 + n)) h)
more_twice n h =
    let same : (h.lends + 1) + n ≡ h.lends + (1 + n) = omega arith in
    ap (λ k. Some (with_lends k h)) same

abbrev occurs : ℕ → List ℕ → ℕ
occurs k [] = 0
occurs k (i ∷ is) = cond (i == k) (1 + occurs k is) (occurs k is)

as_count : (k : ℕ) (is : List ℕ) → occurs k is ≡ times k is
as_count k is = is_count_by (occurs k) (λ i. i == k) refl (λ i Contains-rest. refl) is

counted_here : (i j : ℕ) (is : List ℕ) → i ≡ j → times j (i ∷ is) ≡ 1 + times j is
counted_here i j is e = sym (as_count j (i ∷ is)) ∙ (ap (λ b. cond b (1 + occurs j is) (occurs j is)) (eq-eqb i j e) ∙ ap (λ n. 1 + n) (as_count j is))

not_counted : (i j : ℕ) (is : List ℕ) → i ≢ j → times j (i ∷ is) ≡ times j is
not_counted i j is other = sym (as_count j (i ∷ is)) ∙ (ap (λ b. cond b (1 + occurs j is) (occurs j is)) (ne_eqb i j other) ∙ as_count j is)

module _ (laws : Laws) where
  gone : (t : Handles) (most : ℕ) (ms : List Met) (i : ℕ) → IsSoundHandles t → handle_at t i ≡ None → GoesInTurn t most ms → handle_at (after_met t ms) i ≡ None
  gone t most [] i s e go = e
  gone t most (text_content tags n ∷ ms) i s e go = gone t (most - n) ms i s e go.1
  gone t most (content n ∷ ms) i s e go = gone t (most - n) ms i s e go.1
  gone t most (taken j ∷ ms) i s e go =
      let step = laws.release t j go.0.entry s go.0.stands in
      let other : i ≢ j = λ same. none_is (sym e ∙ ap (handle_at t) same ∙ go.0.stands) in
      gone (after_release t j) most ms i step.sound (step.changes.others i other ∙ e) go.1
  gone t most (lent j ∷ ms) i s e go =
      let step = laws.lend t j go.0.0 s go.0.1 in
      let other : i ≢ j = λ same. none_is (sym e ∙ ap (handle_at t) same ∙ go.0.1) in
      gone (after_lend t j) most ms i step.sound (step.changes.others i other ∙ e) go.1

  sound : (t : Handles) (most : ℕ) (ms : List Met) → IsSoundHandles t → GoesInTurn t most ms → IsSoundHandles (after_met t ms)
  sound t most [] s go = s
  sound t most (text_content tags n ∷ ms) s go = sound t (most - n) ms s go.1
  sound t most (content n ∷ ms) s go = sound t (most - n) ms s go.1
  sound t most (taken j ∷ ms) s go = sound (after_release t j) most ms (laws.release t j go.0.entry s go.0.stands).sound go.1
  sound t most (lent j ∷ ms) s go = sound (after_lend t j) most ms (laws.lend t j go.0.0 s go.0.1).sound go.1

  freed : (t : Handles) (most : ℕ) (ms : List Met) → IsSoundHandles t → GoesInTurn t most ms → (after_met t ms).freed ≡ reverse (taken_of ms) ++ t.freed
  freed t most [] s go = refl
  freed t most (text_content tags n ∷ ms) s go = freed t (most - n) ms s go.1
  freed t most (content n ∷ ms) s go = freed t (most - n) ms s go.1
  freed t most (taken j ∷ ms) s go =
      freed (after_release t j) most ms (laws.release t j go.0.entry s go.0.stands).sound go.1
      ∙ (sym (append_assoc (reverse (taken_of ms)) (j ∷ []) t.freed) ∙ ap (λ l. l ++ t.freed) (sym (reverse_onto (taken_of ms) j [])))
  freed t most (lent j ∷ ms) s go = freed (after_lend t j) most ms (laws.lend t j go.0.0 s go.0.1).sound go.1

  taken_away : (t : Handles) (most : ℕ) (ms : List Met) (i : ℕ) → IsSoundHandles t → GoesInTurn t most ms → Contains (taken_of ms) i → handle_at (after_met t ms) i ≡ None
  taken_away t most [] i s go c = absurd (omega (arith, c.1))
  taken_away t most (text_content tags n ∷ ms) i s go c = taken_away t (most - n) ms i s go.1 c
  taken_away t most (content n ∷ ms) i s go c = taken_away t (most - n) ms i s go.1 c
  taken_away t most (taken j ∷ ms) i s go c =
      let step = laws.release t j go.0.entry s go.0.stands in
      elim (first_or_rest j (taken_of ms) i c) [
        | inl same ↦ gone (after_release t j) most ms i step.sound (ap (handle_at (after_release t j)) (sym same) ∙ step.changes.here) go.1
        | inr later ↦ taken_away (after_release t j) most ms i step.sound go.1 later
      ]
  taken_away t most (lent j ∷ ms) i s go c = taken_away (after_lend t j) most ms i (laws.lend t j go.0.0 s go.0.1).sound go.1 c

  stays : (t : Handles) (most : ℕ) (ms : List Met) (i : ℕ) → IsSoundHandles t → GoesInTurn t most ms → (Contains (taken_of ms) i → ⊥)
      → handle_at (after_met t ms) i ≡ option_map (more (times i (lent_of ms))) (handle_at t i)
  stays t most [] i s go none = more_none (handle_at t i)
  stays t most (text_content tags n ∷ ms) i s go none = stays t (most - n) ms i s go.1 none
  stays t most (content n ∷ ms) i s go none = stays t (most - n) ms i s go.1 none
  stays t most (taken j ∷ ms) i s go none =
      let step = laws.release t j go.0.entry s go.0.stands in
      let other : i ≢ j = λ same. none (subst (Contains (j ∷ taken_of ms)) (sym same) (Contains-first j (taken_of ms))) in
      stays (after_release t j) most ms i step.sound go.1 (λ c. none (Contains-rest j (taken_of ms) i c))
      ∙ ap (option_map (more (times i (lent_of ms)))) (step.changes.others i other)
  stays t most (lent j ∷ ms) i s go none =
      let step = laws.lend t j go.0.0 s go.0.1 in
      let after = stays (after_lend t j) most ms i step.sound go.1 none in
      elim (cases_eq i j) as (λ r. handle_at (after_met (after_lend t j) ms) i ≡ option_map (more (times i (j ∷ lent_of ms))) (handle_at t i)) [
        | inl same ↦
            let now : handle_at (after_lend t j) i ≡ Some (with_lends (go.0.0.lends + 1) go.0.0) = ap (handle_at (after_lend t j)) same ∙ step.changes.here in
            let was : handle_at t i ≡ Some go.0.0 = ap (handle_at t) same ∙ go.0.1 in
            after
            ∙ (ap (option_map (more (times i (lent_of ms)))) now
            ∙ (more_twice (times i (lent_of ms)) go.0.0
            ∙ (ap (λ n. Some (more n go.0.0)) (sym (counted_here j i (lent_of ms) (sym same)))
            ∙ ap (option_map (more (times i (j ∷ lent_of ms)))) (sym was))))
        | inr other ↦
            after
            ∙ (ap (option_map (more (times i (lent_of ms)))) (step.changes.others i other)
            ∙ ap (λ n. option_map (more n) (handle_at t i)) (sym (not_counted j i (lent_of ms) (λ e. other (sym e)))))
      ]

  pub handed : (t : Handles) (most : ℕ) (ms : List Met) → IsSoundHandles t → GoesInTurn t most ms → IsHanded t ms (after_met t ms)
  handed t most ms s go = record {
    sound = sound t most ms s go;
    freed = freed t most ms s go;
    gone = λ i c. taken_away t most ms i s go c;
    stays = λ i none. stays t most ms i s go none;
  }
