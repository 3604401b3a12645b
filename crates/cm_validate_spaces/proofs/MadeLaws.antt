-- What tells the core functions that canonical definitions made.
use Rattle.std.proofs.Common.{◌≡◌, ℕ, zero, suc, ◌≤◌, ◌<◌, true, false, ◌&&◌, List, [], ◌∷◌, ◌++◌, length, map, Option, Some, None, refl, sym, ap, ◌∙◌, arith, subst, length-append}
use Rattle.std.proofs.lemmas.Bool.{ltb-true, lt-ltb}
use Rattle.std.proofs.lemmas.List.{get_or_append_left, length-map, map-append}
use Rattle.std.proofs.lemmas.Option.{slice_get-map}
use Rattle.std.specs.List.{list_all, slice_get}
use Rattle.cm_types.specs.Types.{FuncTy}
use Rattle.cm_types_arena.specs.Replaced.{replaced_func}
use Rattle.cm_types_arena.specs.Placed.{moved_by}
use Rattle.cm_validate_model.specs.Definitions.{CoreFuncDef, guest, lowered, making}
use Rattle.cm_validate_model.specs.Options.{is_guest}
use Rattle.cm_validate_types.specs.TypeScopes.{Extends}
use Rattle.std.specs.Option.{option_map}
use Rattle.cm_validate_model.specs.Spaces.{Spaces}
use Rattle.cm_validate_core.specs.Entries.{export_of, func_of}
use Rattle.cm_validate_core.specs.declared.entries.CoreFunc.{CoreFunc}
use Rattle.cm_validate_core.specs.declared.entries.CoreFunc.TheVariants as func
use Rattle.cm_validate_core.specs.declared.entries.GuestExport.{GuestExport}
use Rattle.cm_validate_spaces.specs.ComponentEntries.{AreEntriesOf, funcs_in}
use Rattle.cm_validate_spaces.specs.Made.{Tells, is_made_there, made_def}
use Rattle.cm_validate_spaces.specs.declared.entries.ComponentEntries.{ComponentEntries}
use Rattle.cm_validate_spaces.specs.declared.made.MadeFunc.{MadeFunc}
use Rattle.cm_validate_spaces.specs.declared.made.MadeFunc.TheVariants as made
use Rattle.cm_lemmas.proofs.Lists.{get_front, get_last}
use Rattle.cm_lemmas.proofs.Bools.{both_left, both_right}
use Rattle.cm_lemmas.proofs.Options.{some_is}

-- ---- one that tells them

-- behind the list it tells what makes handles of the resource of this number
pub told_or : ℕ → List FuncTy → List MadeFunc → ℕ → CoreFuncDef
told_or k funcs [] n = making k
told_or k funcs (m ∷ ms) zero = made_def funcs m
told_or k funcs (m ∷ ms) (suc n) = told_or k funcs ms n

no_guest : (funcs : List FuncTy) (m : MadeFunc) → is_guest (made_def funcs m) ≡ false
no_guest funcs (made.Lowered import number ty options) = refl
no_guest funcs (made.Making n) = refl
no_guest funcs (made.Dropping n) = refl
no_guest funcs (made.Reading n) = refl

none_guests : (k : ℕ) (funcs : List FuncTy) (ms : List MadeFunc) (n : ℕ) → is_guest (told_or k funcs ms n) ≡ false
unfolding told_or
none_guests k funcs [] n = refl
none_guests k funcs (m ∷ ms) zero = no_guest funcs m
none_guests k funcs (m ∷ ms) (suc n) = none_guests k funcs ms n

all_told : (k : ℕ) (funcs : List FuncTy) (ms : List MadeFunc) (n : ℕ) (d : CoreFuncDef) → slice_get (map (made_def funcs) ms) n ≡ Some d → told_or k funcs ms n ≡ d
unfolding told_or
all_told k funcs [] n d e = absurd cc
all_told k funcs (m ∷ ms) zero d e = some_is (made_def funcs m) d e
all_told k funcs (m ∷ ms) (suc n) d e = all_told k funcs ms n d e

tells_or : (k : ℕ) (funcs : List FuncTy) (ms : List MadeFunc) → Tells (told_or k funcs ms) (map (made_def funcs) ms)
tells_or k funcs ms = record { told = all_told k funcs ms; no_guests = none_guests k funcs ms }

abbrev pub told_by : List FuncTy → List MadeFunc → ℕ → CoreFuncDef
told_by = told_or 0

pub tells : (funcs : List FuncTy) (ms : List MadeFunc) → Tells (told_by funcs ms) (map (made_def funcs) ms)
tells = tells_or 0

-- ---- the core function of an index

told_there : (k : ℕ) (funcs : List FuncTy) (ms : List MadeFunc) (n : ℕ) (m : MadeFunc) → slice_get ms n ≡ Some m → told_or k funcs ms n ≡ made_def funcs m
unfolding told_or
told_there k funcs [] n m e = absurd cc
told_there k funcs (x ∷ ms) zero m e = ap (made_def funcs) (some_is x m e)
told_there k funcs (x ∷ ms) (suc n) m e = told_there k funcs ms n m e

told_behind : (k : ℕ) (funcs : List FuncTy) (ms : List MadeFunc) (n : ℕ) → slice_get ms n ≡ None → told_or k funcs ms n ≡ making k
unfolding told_or
told_behind k funcs [] n e = refl
told_behind k funcs (x ∷ ms) zero e = absurd cc
told_behind k funcs (x ∷ ms) (suc n) e = told_behind k funcs ms n e

making_is : (j k : ℕ) → making j ≡ making k → j ≡ k
making_is j k e = cc

apart : making 0 ≡ making 1 → ⊥
apart e = omega (arith, making_is 0 1 e)

module _ (e : ComponentEntries) (s : Spaces) (are : AreEntriesOf e s) (index : ℕ) (f : Option CoreFunc) (is : f ≡ slice_get e.core_funcs.items index) where
  abbrev shown : ℕ → CoreFunc → CoreFuncDef
  shown k = func_of (told_or k (funcs_in e) e.made.items)

  told : (k : ℕ) → option_map (shown k) f ≡ slice_get s.core_funcs index
  told k =
      ap (option_map (shown k)) is ∙ sym (slice_get-map (shown k) e.core_funcs.items index)
      ∙ ap (λ (ds : List CoreFuncDef). slice_get ds index) (sym (are.core_funcs_are (told_or k (funcs_in e) e.made.items) (tells_or k (funcs_in e) e.made.items)))

  pub no_func : f ≡ None → None ≡ slice_get s.core_funcs index
  no_func n = sym (ap (option_map (shown 0)) n) ∙ told 0

  pub guest_func : (x : GuestExport) → f ≡ Some (func.Guest x) → Some (guest (export_of x)) ≡ slice_get s.core_funcs index
  guest_func x h = sym (ap (option_map (shown 0)) h) ∙ told 0

  pub made_func : (n : ℕ) (m : MadeFunc) → f ≡ Some (func.Made n) → slice_get e.made.items n ≡ Some m → Some (made_def (funcs_in e) m) ≡ slice_get s.core_funcs index
  made_func n m h there = sym (ap Some (told_there 0 (funcs_in e) e.made.items n m there)) ∙ sym (ap (option_map (shown 0)) h) ∙ told 0

  -- so what is behind the list is no core function
  behind : (n k : ℕ) → f ≡ Some (func.Made n) → slice_get e.made.items n ≡ None → Some (making k) ≡ slice_get s.core_funcs index
  behind n k h none = sym (ap Some (told_behind k (funcs_in e) e.made.items n none)) ∙ sym (ap (option_map (shown k)) h) ∙ told k

  pub none_behind : (n : ℕ) → f ≡ Some (func.Made n) → slice_get e.made.items n ≡ None → ⊥
  none_behind n h none = apart (some_is (making 0) (making 1) (behind n 0 h none ∙ sym (behind n 1 h none)))

-- how many there are
pub func_count : (e : ComponentEntries) (s : Spaces) → AreEntriesOf e s → length e.core_funcs.items ≡ length s.core_funcs
func_count e s are =
    sym (length-map e.core_funcs.items (func_of (told_by (funcs_in e) e.made.items)))
    ∙ ap (λ (ds : List CoreFuncDef). length ds) (sym (are.core_funcs_are (told_by (funcs_in e) e.made.items) (tells (funcs_in e) e.made.items)))

-- the type of one that is in the list is there
pub one_there : (n : ℕ) (ms : List MadeFunc) (i : ℕ) (m : MadeFunc) → list_all (is_made_there n) ms ≡ true → slice_get ms i ≡ Some m → is_made_there n m ≡ true
one_there n [] i m h e = absurd cc
one_there n (x ∷ ms) zero m h e = ap (is_made_there n) (sym (some_is x m e)) ∙ both_left (is_made_there n x) (list_all (is_made_there n) ms) h
one_there n (x ∷ ms) (suc i) m h e = one_there n ms i m (both_right (is_made_there n x) (list_all (is_made_there n) ms) h) e

-- ---- one more

module _ (funcs : List FuncTy) (ms : List MadeFunc) (m : MadeFunc) (tell : ℕ → CoreFuncDef) (t : Tells tell (map (made_def funcs) (ms ++ m ∷ []))) where
  both : Tells tell (map (made_def funcs) ms ++ made_def funcs m ∷ [])
  both = subst (Tells tell) (map-append (made_def funcs) ms (m ∷ [])) t

  pub tells_before : Tells tell (map (made_def funcs) ms)
  tells_before = record {
    told = λ n d e. both.told n d (get_front (map (made_def funcs) ms) (made_def funcs m ∷ []) n d e);
    no_guests = t.no_guests;
  }

  length_mapped : {A B : Type 0} (f : A → B) (xs : List A) → length (map f xs) ≡ length xs
  length_mapped f [] = refl
  length_mapped f (x ∷ xs) = ap suc (length_mapped f xs)

  pub tells_last : tell (length ms) ≡ made_def funcs m
  tells_last = ap tell (sym (length_mapped (made_def funcs) ms)) ∙ both.told (length (map (made_def funcs) ms)) (made_def funcs m) (get_last (map (made_def funcs) ms) (made_def funcs m))

-- ---- the arena grows

kept : (funcs more : List FuncTy) (m : MadeFunc) → is_made_there (length funcs) m ≡ true → made_def (funcs ++ more) m ≡ made_def funcs m
kept funcs more (made.Lowered import number ty options) h =
    ap (λ (f : FuncTy). lowered import number f options.now) (ap (replaced_func (moved_by ty.by)) (get_or_append_left funcs more _ ty.place (ltb-true ty.place (length funcs) h)))
kept funcs more (made.Making n) h = refl
kept funcs more (made.Dropping n) h = refl
kept funcs more (made.Reading n) h = refl

all_kept : (funcs more : List FuncTy) (ms : List MadeFunc) → list_all (is_made_there (length funcs)) ms ≡ true → map (made_def (funcs ++ more)) ms ≡ map (made_def funcs) ms
all_kept funcs more [] h = refl
all_kept funcs more (m ∷ ms) h =
    ap (λ (d : CoreFuncDef). d ∷ map (made_def (funcs ++ more)) ms) (kept funcs more m (both_left (is_made_there (length funcs) m) (list_all (is_made_there (length funcs)) ms) h))
    ∙ ap (λ (ds : List CoreFuncDef). made_def funcs m ∷ ds) (all_kept funcs more ms (both_right (is_made_there (length funcs) m) (list_all (is_made_there (length funcs)) ms) h))

pub defs_kept : (f g : List FuncTy) (ms : List MadeFunc) → Extends f g → list_all (is_made_there (length f)) ms ≡ true → map (made_def g) ms ≡ map (made_def f) ms
defs_kept f g ms k h = subst (λ (u : List FuncTy). map (made_def u) ms ≡ map (made_def f) ms) (sym k.1) (all_kept f k.0 ms h)

there_more : (m n : ℕ) (x : MadeFunc) → m ≤ n → is_made_there m x ≡ true → is_made_there n x ≡ true
there_more m n (made.Lowered import number ty options) le h = let lt : ty.place < m = ltb-true ty.place m h in lt-ltb ty.place n (omega arith)
there_more m n (made.Making k) le h = refl
there_more m n (made.Dropping k) le h = refl
there_more m n (made.Reading k) le h = refl

all_there_more : (m n : ℕ) (xs : List MadeFunc) → m ≤ n → list_all (is_made_there m) xs ≡ true → list_all (is_made_there n) xs ≡ true
all_there_more m n [] le h = refl
all_there_more m n (x ∷ xs) le h =
    ap (λ b. b && list_all (is_made_there n) xs) (there_more m n x le (both_left (is_made_there m x) (list_all (is_made_there m) xs) h))
    ∙ all_there_more m n xs le (both_right (is_made_there m x) (list_all (is_made_there m) xs) h)

pub still_there : (f g : List FuncTy) (ms : List MadeFunc) → Extends f g → list_all (is_made_there (length f)) ms ≡ true → list_all (is_made_there (length g)) ms ≡ true
still_there f g ms k h = all_there_more (length f) (length g) ms (subst (λ (u : List FuncTy). length f ≤ length u) (sym k.1) (omega (arith, length-append f k.0))) h

pub there_with : (n : ℕ) (ms : List MadeFunc) (m : MadeFunc) → list_all (is_made_there n) ms ≡ true → is_made_there n m ≡ true → list_all (is_made_there n) (ms ++ m ∷ []) ≡ true
there_with n [] m h e = ap (λ b. b && true) e
there_with n (x ∷ ms) m h e =
    ap (λ b. b && list_all (is_made_there n) (ms ++ m ∷ [])) (both_left (is_made_there n x) (list_all (is_made_there n) ms) h)
    ∙ there_with n ms m (both_right (is_made_there n x) (list_all (is_made_there n) ms) h) e
