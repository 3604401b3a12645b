-- What is spelled passes a test: step by step.
use Rattle.std.proofs.Common.{◌≡◌, ℕ, zero, suc, ◌-◌, ◌^◌, List, [], ◌∷◌, Bool, true, Result, refl}
use Rattle.std.specs.List.{list_all}
use Rattle.std.proofs.lemmas.Bool.{and_from, lt-ltb}
use Rattle.cm_binary_grammar.specs.Grammar.{Grammar, done, ◌>>=◌, code, refuse, ahead, number, fixed, chain, from_stock, vec, stocked}
use Rattle.cm_binary_grammar.specs.Whole.{Whole, build, exactly, join, of_size}
use Rattle.cm_binary_model.specs.Parts.{is_index}

pub record Passes {R A : Type 0} (g : Grammar R A) (test : A → Bool) : Type 0 where
  pub passed : (x : A) (bytes : List ℕ) → g.Spells x bytes → test x ≡ true

pub record PassesWhole {R A : Type 0} (w : Whole R A) (test : A → Bool) : Type 0 where
  pub passed : (x : A) (bytes : List ℕ) → w.Spells x bytes → test x ≡ true

-- ---- steps

pub done_passes : {R A : Type 0} {test : A → Bool} (x : A) → test x ≡ true → Passes (done {R = R} x) test
done_passes x h = record { passed = λ y bytes s. rw s.0 h }

-- What the first thing passes is known where the second one stands.
pub bind_passes : {R A B : Type 0} {first : A → Bool} {test : B → Bool} (g : Grammar R A) (next : A → Grammar R B) → Passes g first → ((x : A) → first x ≡ true → Passes (next x) test) → Passes (g >>= next) test
bind_passes g next l m = record { passed = λ y bytes s. (m s.0 (l.passed s.0 s.1 s.3)).passed y s.2 s.4 }

pub code_passes : {R K : Type 0} (table : ℕ → Result K R) → Passes (code table) (λ k. true)
code_passes table = record { passed = λ k bytes s. refl }

pub refuse_passes : {R A : Type 0} {test : A → Bool} (reason : ℕ → R) → Passes (refuse {A = A} reason) test
refuse_passes reason = record { passed = λ x bytes s. let e = s.2 in absurd cc }

pub ahead_passes : {R A : Type 0} {test : A → Bool} (choice : ℕ → Grammar R A) → ((b : ℕ) → Passes (choice b) test) → Passes (ahead choice) test
ahead_passes choice l = record { passed = λ x bytes s. (l s.0).passed x bytes s.3 }

pub number_passes : {R : Type 0} (bad : R) → Passes (number bad) is_index
number_passes bad = record { passed = λ n bytes s. lt-ltb n (2 ^ 32) s.fits }

pub fixed_passes : {R : Type 0} (literal : List ℕ) (reason : R) → Passes (fixed literal reason) (λ u. true)
fixed_passes literal reason = record { passed = λ u bytes s. refl }

-- ---- several

pub chain_passes : {R A S : Type 0} (g : S → Grammar R A) (next : S → A → S) (test : A → Bool) → ((s : S) → Passes (g s) test) → (n : ℕ) (s : S) → Passes (chain g next n s) (list_all test)
chain_passes g next test l zero s = done_passes [] refl
chain_passes g next test l (suc n) s = bind_passes (g s) _ (l s) (λ x h. bind_passes (chain g next n (next s x)) _ (chain_passes g next test l n (next s x)) (λ xs hs. done_passes (x ∷ xs) (and_from (test x) (list_all test xs) h hs)))

pub vec_passes : {R A : Type 0} (bad : R) (g : Grammar R A) (test : A → Bool) → Passes g test → Passes (vec bad g) (list_all test)
vec_passes bad g test l = bind_passes _ _ (number_passes bad) (λ n h. chain_passes (λ (s : Unit {0}). g) (λ s x. s) test (λ s. l) n tt)

pub from_stock_passes : {R A : Type 0} {test : A → Bool} (g : ℕ → Grammar R A) (reason : R) → ((stock : ℕ) → Passes (g stock) test) → (stock : ℕ) → Passes (from_stock g reason stock) test
from_stock_passes g reason l zero = record { passed = λ x bytes s. absurd s }
from_stock_passes g reason l (suc stock) = l stock

pub stocked_passes : {R A : Type 0} (bad : R) (g : ℕ → Grammar R A) (cost : A → ℕ) (test : A → Bool) → ((stock : ℕ) → Passes (g stock) test) → (stock : ℕ) → Passes (stocked bad g cost stock) (list_all test)
stocked_passes bad g cost test l stock = bind_passes _ _ (number_passes bad) (λ n h. chain_passes g (λ left x. left - cost x) test l n stock)

-- ---- bytes to their end

pub build_passes : {R A B : Type 0} {test : B → Bool} (make : A → B) (w : Whole R A) → PassesWhole w (λ x. test (make x)) → PassesWhole (build make w) test
build_passes make w l = record { passed = λ y bytes s. rw s.2 (l.passed s.0 bytes s.1) }

pub exactly_passes : {R A : Type 0} {test : A → Bool} (surplus : R) (g : Grammar R A) → Passes g test → PassesWhole (exactly surplus g) test
exactly_passes surplus g l = record { passed = l.passed }

pub join_passes : {R A B : Type 0} {first : A → Bool} {test : B → Bool} (g : Grammar R A) (next : A → Whole R B) → Passes g first → ((x : A) → first x ≡ true → PassesWhole (next x) test) → PassesWhole (join g next) test
join_passes g next l m = record { passed = λ y bytes s. (m s.0 (l.passed s.0 s.1 s.3)).passed y s.2 s.4 }

pub of_size_passes : {R A : Type 0} {test : A → Bool} (mismatch : R) (n : ℕ) (w : Whole R A) → PassesWhole w test → Passes (of_size mismatch n w) test
of_size_passes mismatch n w l = record { passed = λ x bytes s. l.passed x bytes s.1 }
