-- Places of names, and what stands at them.
use Rattle.std.proofs.Common.{◌≡◌, inl, inr, ℕ, suc, ◌+◌, Bool, true, false, cond, if◌then◌else◌, List, [], ◌∷◌, ◌++◌, length, Option, Some, None, refl, sym, ap, ◌∙◌, arith, slice_get}
use Rattle.std.proofs.lemmas.Bool.{cases_Bool}
use Rattle.std.proofs.lemmas.Map.Text.{btree_map_updates_str}
use Rattle.std.proofs.lemmas.Slice.Eq.{bytes_eq-Decides}
use Rattle.std.specs.Borrow.{Bor}
use Rattle.std.specs.BTreeMap.{BTreeMap, UpdatesBy, get_by}
use Rattle.std.specs.Cmp.Lexicographic.{slice_cmp}
use Rattle.std.specs.List.{position_from}
use Rattle.std.specs.Option.{option_map, option_or}
use Rattle.std.specs.Ordering.{nat_cmp}
use Rattle.std.specs.Str.{bytes_eq}
use Rattle.cm_validate_core.specs.NamedValues.{ArePlaced, names_in, place_of, value_of}
use Rattle.cm_lemmas.proofs.Options.{or_none}

-- ---- what stands at the place of a name

module _ {V : Type 0} (name : List ℕ) where
  none_at : (es : List (Bor (List ℕ) × V)) (i : ℕ) → position_from (bytes_eq name) i (names_in es) ≡ None → value_of name es ≡ None
  none_at [] i e = refl
  none_at (x ∷ es) i e = here (bytes_eq name x.0.now) e (none_at es (i + 1))
    where
      here : (b : Bool) → cond b (Some i) (position_from (bytes_eq name) (i + 1) (names_in es)) ≡ None → (position_from (bytes_eq name) (i + 1) (names_in es) ≡ None → value_of name es ≡ None)
          → cond b (Some x.1) (value_of name es) ≡ None
      here true f rest = absurd cc
      here false f rest = rest f

  abbrev At : List (Bor (List ℕ) × V) → ℕ → ℕ → Type 0
  At es i p = (j : ℕ) × (p ≡ i + j) × (option_map (λ e. e.1) (slice_get es j) ≡ value_of name es)

  some_at : (es : List (Bor (List ℕ) × V)) (i p : ℕ) → position_from (bytes_eq name) i (names_in es) ≡ Some p → At es i p
  some_at [] i p e = absurd cc
  some_at (x ∷ es) i p e = here (bytes_eq name x.0.now) refl e (some_at es (i + 1) p)
    where
      here : (b : Bool) → bytes_eq name x.0.now ≡ b → cond b (Some i) (position_from (bytes_eq name) (i + 1) (names_in es)) ≡ Some p
          → (position_from (bytes_eq name) (i + 1) (names_in es) ≡ Some p → At es (i + 1) p) → At (x ∷ es) i p
      here true t f rest = let same : i ≡ p = cc in (0, omega (arith, same), sym (ap (λ b. cond b (Some x.1) (value_of name es)) t))
      here false t f rest =
          let r = rest f in
          (suc r.0, omega (arith, r.1), r.2 ∙ sym (ap (λ b. cond b (Some x.1) (value_of name es)) t))

  pub no_place : (es : List (Bor (List ℕ) × V)) → place_of name (names_in es) ≡ None → value_of name es ≡ None
  no_place es e = none_at es 0 e

  pub at_place : (es : List (Bor (List ℕ) × V)) (p : ℕ) → place_of name (names_in es) ≡ Some p → option_map (λ e. e.1) (slice_get es p) ≡ value_of name es
  at_place es p e =
      let r = some_at es 0 p e in
      let same : p ≡ r.0 = omega (arith, r.1) in
      ap (λ q. option_map (λ e. e.1) (slice_get es q)) same ∙ r.2

  -- what a reading of the entries gives there
  pub read_at : (es : List (Bor (List ℕ) × V)) (p : ℕ) (o : Option (Bor (Bor (List ℕ) × V))) → place_of name (names_in es) ≡ Some p
      → option_map (λ x. x.now) o ≡ slice_get es p → option_map (λ (x : Bor (Bor (List ℕ) × V)). x.now.1) o ≡ value_of name es
  read_at es p o is reads = mapped o ∙ ap (option_map (λ e. e.1)) reads ∙ at_place es p is
    where
      mapped : (k : Option (Bor (Bor (List ℕ) × V))) → option_map (λ (x : Bor (Bor (List ℕ) × V)). x.now.1) k ≡ option_map (λ e. e.1) (option_map (λ x. x.now) k)
      mapped None = refl
      mapped (Some x) = refl

-- ---- one more name

later : (b : Bool) (i n : ℕ) (o : Option ℕ) (d : Bool) → cond b (Some i) (option_or o (if d then Some n else None)) ≡ option_or (cond b (Some i) o) (if d then Some n else None)
later true i n o d = refl
later false i n o d = refl

place_more : (name : List ℕ) (ns : List (List ℕ)) (x : List ℕ) (i : ℕ)
    → position_from (bytes_eq name) i (ns ++ x ∷ []) ≡ option_or (position_from (bytes_eq name) i ns) (if bytes_eq name x then Some (i + length ns) else None)
place_more name [] x i = here (bytes_eq name x)
  where
    here : (b : Bool) → cond b (Some i) None ≡ (if b then Some (i + 0) else None)
    here true = ap (λ n. Some n) (omega arith)
    here false = refl
place_more name (n ∷ ns) x i =
    ap (cond (bytes_eq name n) (Some i)) (place_more name ns x (i + 1) ∙ ap (λ k. option_or (position_from (bytes_eq name) (i + 1) ns) (if bytes_eq name x then Some k else None)) (omega arith))
    ∙ later (bytes_eq name n) i (i + length (n ∷ ns)) (position_from (bytes_eq name) (i + 1) ns) (bytes_eq name x)

pub names_more : {V : Type 0} (es : List (Bor (List ℕ) × V)) (e : Bor (List ℕ) × V) → names_in (es ++ e ∷ []) ≡ names_in es ++ e.0.now ∷ []
names_more [] e = refl
names_more (x ∷ es) e = ap (λ ns. x.0.now ∷ ns) (names_more es e)

pub names_length : {V : Type 0} (es : List (Bor (List ℕ) × V)) → length (names_in es) ≡ length es
names_length [] = refl
names_length (x ∷ es) = ap suc (names_length es)

pub put_last : {V : Type 0} (old new : BTreeMap (Bor (List ℕ)) ℕ) (es : List (Bor (List ℕ) × V)) (e : Bor (List ℕ) × V) (n : ℕ)
    → ArePlaced old (names_in es) → place_of e.0.now (names_in es) ≡ None → n ≡ length es
    → UpdatesBy (λ x y. slice_cmp nat_cmp x.now y.now) (λ k. slice_cmp nat_cmp e.0.now k.now) old new (Some n)
    → ArePlaced new (names_in (es ++ e ∷ []))
put_last old new es e n placed absent last updates name =
    btree_map_updates_str e.0.now old new (Some n) updates name
    ∙ ap (λ k. cond (bytes_eq e.0.now name) (Some k) known) last
    ∙ here (bytes_eq e.0.now name) refl
    ∙ sym (place_more name (names_in es) e.0.now 0)
    ∙ sym (ap (place_of name) (names_more es e))
  where
    known : Option ℕ
    known = get_by (λ k. slice_cmp nat_cmp name k.now) old

    here : (b : Bool) → bytes_eq e.0.now name ≡ b → cond b (Some (length es)) known ≡ option_or (place_of name (names_in es)) (if bytes_eq name e.0.now then Some (0 + length (names_in es)) else None)
    here true t =
        let same : name ≡ e.0.now = sym ((bytes_eq-Decides e.0.now name).0 t) in
        let back : bytes_eq name e.0.now ≡ true = (bytes_eq-Decides name e.0.now).1 same in
        let gone : place_of name (names_in es) ≡ None = ap (λ n. place_of n (names_in es)) same ∙ absent in
        rw (gone, back) (ap (λ n. Some n) (sym (names_length es) ∙ omega arith))
    here false t =
        let other : bytes_eq name e.0.now ≡ false = elim (cases_Bool (bytes_eq name e.0.now)) [
          | inl y ↦ absurd (apart t ((bytes_eq-Decides e.0.now name).1 (sym ((bytes_eq-Decides name e.0.now).0 y))))
          | inr n ↦ n
        ] in
        placed name ∙ rw (other) (sym (or_none (place_of name (names_in es))))
      where
        apart : bytes_eq e.0.now name ≡ false → bytes_eq e.0.now name ≡ true → ⊥
        apart f g = absurd cc
