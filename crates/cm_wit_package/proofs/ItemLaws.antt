-- Lists of things are read again: things between commas, and members up to a brace.
use Rattle.std.proofs.Common.{◌≡◌, ℕ, zero, suc, ◌<◌, Bool, true, false, ◌||◌, not, if◌then◌else◌, List, [], ◌∷◌, ◌++◌, length, Option, Some, None, Ok, refl, sym, ap, subst, ◌∙◌, append-nil, append_assoc, arith, inl, inr, ◌⊎◌}
use Rattle.std.specs.List.{flat_map}
use Rattle.cm_wit_tokens.specs.declared.keyword.Keyword.TheVariants as word
use Rattle.cm_wit_tokens.specs.declared.operator.Operator.{Operator}
use Rattle.cm_wit_tokens.specs.declared.operator.Operator.TheVariants as operator
use Rattle.cm_wit_tokens.specs.declared.token.Form.{Form}
use Rattle.cm_wit_tokens.specs.declared.token.Form.TheVariants as form
use Rattle.cm_wit_tokens.specs.declared.token.Token.{Token}
use Rattle.cm_wit_tokens.specs.Forms.{is_operator, is_keyword}
use Rattle.cm_wit_tokens.specs.Grammar.{first, Grammar, done, ◌>>=◌, passes, chosen}
use Rattle.cm_wit_tokens.specs.Lists.{next_item, items, and_more, last_comma, at_most, items_and, is_member, next_member, members}
use Rattle.cm_wit_tokens.specs.Parts.{expect}
use Rattle.cm_wit_tokens.specs.Reading.{next_form}
use Rattle.cm_wit_package.specs.TreeTokens.{mark, behind_commas, with_commas}
use Rattle.cm_wit_package.proofs.Lexing.{forms}
use Rattle.cm_wit_package.specs.Words.{words}
use Rattle.cm_wit_package.proofs.Chains.{pair_is, pair_of, split, first_form, behind_first, words_append, Canon, Law, law, bind, end, at, passes_at, is_not, if_false, token_parts}
use Rattle.cm_wit_package.proofs.ListLaws.{operator_is, if_ok, any, StepLaw, steps_law}
use Rattle.cm_wit_tokens.proofs.FaultsLaws.{ok_of}
use Rattle.cm_lemmas.proofs.Options.{some_is}
use Rattle.cm_wit_tokens.proofs.Tools.{then_from_ok, then_ok}

-- ---- what may stand behind things

-- what goes on with a type, a path, a name or a case
abbrev pub hot : Form → Bool
hot f = is_operator operator.LessThan f || (is_operator operator.Arrow f || (is_operator operator.Colon f || (is_operator operator.At f || (is_operator operator.LeftParenthesis f || is_keyword word.As f))))

abbrev pub calm : Option Form → Bool
calm n = not (at hot n)

abbrev pub closed : Operator → Option Form → Bool
closed o n = at (is_operator o) n

-- an operator that ends things between commas
pub record Closes (closing : Operator) : Type 0 where
  pub no_comma : is_operator operator.Comma (form.Operator closing) ≡ false
  pub ends_calm : calm (Some (form.Operator closing)) ≡ true

pub closed_calm : (closing : Operator) → Closes closing → (n : Option Form) → closed closing n ≡ true → calm n ≡ true
closed_calm closing c None h = absurd cc
closed_calm closing c (Some f) h = rw (operator_is closing f h) c.ends_calm

closed_no_comma : (closing : Operator) → Closes closing → (n : Option Form) → closed closing n ≡ true → at (is_operator operator.Comma) n ≡ false
closed_no_comma closing c None h = refl
closed_no_comma closing c (Some f) h = rw (operator_is closing f h) c.no_comma

none_is_no_some : {A : Type 0} (x : A) (ts rest : List Token) → ok_of {A = Option A × List Token} (None, ts) ≡ ok_of (Some x, rest) → ⊥
none_is_no_some {A} x ts rest e = let q = (pair_is {A = Option A} None (Some x) ts rest e).0 in absurd cc

kept_comma : (f : Form) (fs : List Form) → is_operator operator.Comma f ≡ true → words (f ∷ fs) ≡ words fs
kept_comma f fs h = ap (λ (g : Form). words (g ∷ fs)) (operator_is operator.Comma f h)

-- ---- things behind commas

module _ {A : Type 0} (closing : Operator) (g : Grammar A) (p : A → List Form) (S : Option Form → Bool) (c : Closes closing) (l : Law g p S calm) (apart : (n : Option Form) → S n ≡ true → closed closing n ≡ false) where
  abbrev further : Grammar (Option A)
  further = chosen (is_operator closing) (done None) (g >>= λ x. done (Some x))

  -- a comma was read, or nothing
  abbrev AfterComma : Option A → List Token → List Token → Type 0
  AfterComma o ts rest = (t : Token) × (more : List Token) × (ts ≡ t ∷ more) × (is_operator operator.Comma t.form ≡ true) × (further.reads more ≡ Ok (o, rest))

  comma_by : (b : Bool) (o : Option A) (ts rest : List Token) → (if b then (expect operator.Comma >>= λ _. further).reads ts else ok_of {A = Option A × List Token} (None, ts)) ≡ Ok (o, rest) → ((None ≡ o) × (ts ≡ rest)) ⊎ AfterComma o ts rest
  comma_by true o ts rest e =
      let a = then_ok ((expect operator.Comma).reads ts) (λ (u : Unit {0} × List Token). further.reads u.1) (o, rest) e in
      let t = token_parts _ ts a.0.1 a.0.0 a.1 in
      inr (t.0, a.0.1, t.1, if_ok (is_operator operator.Comma t.0.form) _ a.0.0 t.2, a.2)
  comma_by false o ts rest e = inl (pair_is {A = Option A} None o ts rest e)

  comma_parts : (o : Option A) (ts rest : List Token) → (next_item closing g).reads ts ≡ Ok (o, rest) → ((None ≡ o) × (ts ≡ rest)) ⊎ AfterComma o ts rest
  comma_parts o ts rest e = comma_by (passes (is_operator operator.Comma) (first ts)) o ts rest e

  further_by : (b : Bool) (o : Option A) (ts rest : List Token) → (if b then ok_of {A = Option A × List Token} (None, ts) else (g >>= λ x. done (Some x)).reads ts) ≡ Ok (o, rest) → ((None ≡ o) × (ts ≡ rest)) ⊎ ((x : A) × (Some x ≡ o) × (g.reads ts ≡ Ok (x, rest)))
  further_by true o ts rest e = inl (pair_is {A = Option A} None o ts rest e)
  further_by false o ts rest e =
      let a = then_ok (g.reads ts) (λ (u : A × List Token). ok_of {A = Option A × List Token} (Some u.0, u.1)) (o, rest) e in
      let k = pair_is {A = Option A} (Some a.0.0) o a.0.1 rest a.2 in
      inr (a.0.0, k.0, a.1 ∙ pair_of a.0.0 a.0.0 a.0.1 rest refl k.1)

  further_parts : (o : Option A) (ts rest : List Token) → further.reads ts ≡ Ok (o, rest) → ((None ≡ o) × (ts ≡ rest)) ⊎ ((x : A) × (Some x ≡ o) × (g.reads ts ≡ Ok (x, rest)))
  further_parts o ts rest e = further_by (passes (is_operator closing) (first ts)) o ts rest e

  no_some : (x : A) → Some x ≡ None → ⊥
  no_some x e = absurd cc

  none_kept : (ts rest : List Token) → (next_item closing g).reads ts ≡ Ok (None, rest) → words (forms ts) ≡ words (forms rest)
  none_kept ts rest e = elim (comma_parts None ts rest e) [
    | inl q ↦ ap (λ (us : List Token). words (forms us)) q.1
    | inr a ↦ ap (λ (us : List Token). words (forms us)) a.2 ∙ (kept_comma a.0.form (forms a.1) a.3 ∙ elim (further_parts None a.1 rest a.4) [
      | inl q ↦ ap (λ (us : List Token). words (forms us)) q.1
      | inr x ↦ absurd (no_some x.0 x.1)
    ])
  ]

  some_parts : (x : A) (ts rest : List Token) → (next_item closing g).reads ts ≡ Ok (Some x, rest) → (t : Token) × (more : List Token) × (ts ≡ t ∷ more) × (is_operator operator.Comma t.form ≡ true) × (g.reads more ≡ Ok (x, rest))
  some_parts x ts rest e = elim (comma_parts (Some x) ts rest e) [
    | inl q ↦ absurd (no_some x (sym q.0))
    | inr a ↦ elim (further_parts (Some x) a.1 rest a.4) [
      | inl q ↦ absurd (no_some x (sym q.0))
      | inr y ↦ (a.0, a.1, a.2, a.3, y.2 ∙ pair_of y.0 x rest rest (some_is y.0 x y.1) refl)
    ]
  ]

  comma_read : (left : ℕ) (x : A) (more after : List Token) → passes (is_operator closing) (first more) ≡ false → g.reads more ≡ Ok (x, after) → (next_item closing g).reads (record { left = left; form = form.Operator operator.Comma } ∷ more) ≡ Ok (Some x, after)
  comma_read left x more after e h = rw (e, h) refl

  some_canon : (x : A) (ts rest : List Token) → (next_item closing g).reads ts ≡ Ok (Some x, rest) → Canon (next_item closing g) (Some x) ts rest (mark operator.Comma ++ p x) calm calm
  some_canon x ts rest e =
      let a = some_parts x ts rest e in
      let m = l.at x a.1 rest a.4 in
      record {
        again = λ all after b r.
            let no : passes (is_operator closing) (first b.1) ≡ false = passes_at (is_operator closing) b.1 ∙ rw (behind_first (p x) b.1 after b.3) (apart (first_form (p x) (next_form after)) (m.starts (next_form after) r)) in
            ap (next_item closing g).reads b.2 ∙ comma_read b.0 x b.1 after no (m.again b.1 after b.3 r);
        same = ap (λ (us : List Token). words (forms us)) a.2 ∙ (kept_comma a.0.form (forms a.1) a.3 ∙ m.same);
        starts = λ next r. refl;
      }

  pub next_item_law : StepLaw (next_item closing g) (λ x. mark operator.Comma ++ p x) calm (closed closing)
  next_item_law = record {
    none = none_kept;
    some = some_canon;
    long = λ x ts rest e. omega arith;
    stop = λ all r. if_false (passes (is_operator operator.Comma) (first all)) _ _ (passes_at (is_operator operator.Comma) all ∙ closed_no_comma closing c (next_form all) r);
    calm = closed_calm closing c;
  }

  pub items_law : Law (items closing g) (with_commas p) S (closed closing)
  items_law = law (bind calm l (λ x. bind (closed closing) (steps_law (next_item closing g) _ calm (closed closing) next_item_law) (λ xs. end (x ∷ xs) (λ n h. h) (rw (append-nil (behind_commas p xs)) refl))))

  -- ---- at most so many

  uncomma : (b : Bool) (u : Unit {0}) (ts rest : List Token) → (if b then (expect operator.Comma).reads ts else ok_of {A = Unit {0} × List Token} (tt, ts)) ≡ Ok (u, rest) → words (forms ts) ≡ words (forms rest)
  uncomma true u ts rest e =
      let t = token_parts _ ts rest u e in
      ap (λ (us : List Token). words (forms us)) t.1 ∙ kept_comma t.0.form (forms rest) (if_ok (is_operator operator.Comma t.0.form) _ u t.2)
  uncomma false u ts rest e = ap (λ (us : List Token). words (forms us)) (pair_is tt u ts rest e).1

  no_comma_left : (all : List Token) → closed closing (next_form all) ≡ true → last_comma.reads all ≡ Ok (tt, all)
  no_comma_left all r = if_false (passes (is_operator operator.Comma) (first all)) _ _ (passes_at (is_operator operator.Comma) all ∙ closed_no_comma closing c (next_form all) r)

  abbrev Items : List A → List Form
  Items xs = behind_commas p xs

  most_none : (h : Option A → Grammar (List A)) (ts mid rest : List Token) (xs : List A) → (next_item closing g).reads ts ≡ Ok (None, mid) → h None ≡ done [] → (ys : List A) → ys ≡ xs → mid ≡ rest → ys ≡ [] → Canon ((next_item closing g) >>= h) xs ts rest (Items xs) calm (closed closing)
  most_none h ts mid rest xs e n ys y k z =
      subst (λ (zs : List A). Canon ((next_item closing g) >>= h) zs ts rest (Items zs) calm (closed closing)) (sym z ∙ y) (record {
        again = λ all after b r.
            let here : closed closing (next_form all) ≡ true = rw b r in
            then_from_ok ((next_item closing g).reads all) (λ (u : Option A × List Token). (h u.0).reads u.1) (None, all) (Ok ([], after)) (next_item_law.stop all here) (ap (λ (q : Grammar (List A)). q.reads all) n ∙ pair_of {A = List A} [] [] all after refl b);
        same = none_kept ts mid e ∙ ap (λ (us : List Token). words (forms us)) k;
        starts = closed_calm closing c;
      })

  most_some : (more : Grammar (List A)) → Law more Items calm (closed closing) → (x : A) (ts mid rest : List Token) (xs : List A) → (next_item closing g).reads ts ≡ Ok (Some x, mid) → (more >>= λ ys. done (x ∷ ys)).reads mid ≡ Ok (xs, rest) → Canon ((next_item closing g) >>= (λ o. and_more more o)) xs ts rest (Items xs) calm (closed closing)
  most_some more ih x ts mid rest xs e q =
      let a = then_ok (more.reads mid) (λ (u : List A × List Token). ok_of {A = List A × List Token} (x ∷ u.0, u.1)) (xs, rest) q in
      let k = pair_is {A = List A} (x ∷ a.0.0) xs a.0.1 rest a.2 in
      let m = some_canon x ts mid e in
      let d = ih.at a.0.0 mid a.0.1 a.1 in
      let first_part = mark operator.Comma ++ p x in
      subst (λ (ys : List A). Canon ((next_item closing g) >>= (λ o. and_more more o)) ys ts rest (Items ys) calm (closed closing)) k.0 (subst (λ (us : List Token). Canon ((next_item closing g) >>= (λ o. and_more more o)) (x ∷ a.0.0) ts us (Items (x ∷ a.0.0)) calm (closed closing)) k.1 (record {
        again = λ all after b r.
            let h = split first_part (Items a.0.0) all after b in
            let s : calm (next_form h.0) ≡ true = rw (behind_first (Items a.0.0) h.0 after h.2) (d.starts (next_form after) r) in
            then_from_ok ((next_item closing g).reads all) (λ (u : Option A × List Token). (and_more more u.0).reads u.1) (Some x, h.0) (Ok (x ∷ a.0.0, after)) (m.again all h.0 h.1 s)
            (then_from_ok (more.reads h.0) (λ (u : List A × List Token). ok_of {A = List A × List Token} (x ∷ u.0, u.1)) (a.0.0, after) (Ok (x ∷ a.0.0, after)) (d.again h.0 after h.2 r) refl);
        same = m.same ∙ (ap (λ (z : List Form). words first_part ++ z) d.same ∙ (sym (append_assoc (words first_part) (words (Items a.0.0)) (words (forms a.0.1))) ∙ ap (λ (z : List Form). z ++ words (forms a.0.1)) (sym (words_append first_part (Items a.0.0)))));
        starts = λ next r. refl;
      }))

  most_by : (more : Grammar (List A)) → Law more Items calm (closed closing) → (o : Option A) (ts mid rest : List Token) (xs : List A) → (next_item closing g).reads ts ≡ Ok (o, mid) → (and_more more o).reads mid ≡ Ok (xs, rest) → Canon ((next_item closing g) >>= (λ o. and_more more o)) xs ts rest (Items xs) calm (closed closing)
  most_by more ih None ts mid rest xs e q = let k = pair_is {A = List A} [] xs mid rest q in most_none (λ o. and_more more o) ts mid rest xs e refl [] k.0 k.1 refl
  most_by more ih (Some x) ts mid rest xs e q = most_some more ih x ts mid rest xs e q

  most_law : (n : ℕ) → Law (at_most n closing g) Items calm (closed closing)
  unfolding at_most
  most_law zero = record {
    at = λ xs ts rest e.
        let a = then_ok (last_comma.reads ts) (λ (u : Unit {0} × List Token). ok_of {A = List A × List Token} ([], u.1)) (xs, rest) e in
        let k = pair_is {A = List A} [] xs a.0.1 rest a.2 in
        subst (λ (zs : List A). Canon (last_comma >>= λ _. done []) zs ts rest (Items zs) calm (closed closing)) k.0 (record {
          again = λ all after b r.
              let here : closed closing (next_form all) ≡ true = rw b r in
              then_from_ok (last_comma.reads all) (λ (u : Unit {0} × List Token). ok_of {A = List A × List Token} ([], u.1)) (tt, all) (Ok ([], after)) (no_comma_left all here) (pair_of {A = List A} [] [] all after refl b);
          same = uncomma (passes (is_operator operator.Comma) (first ts)) a.0.0 ts a.0.1 a.1 ∙ ap (λ (us : List Token). words (forms us)) k.1;
          starts = closed_calm closing c;
        });
  }
  most_law (suc n) = record {
    at = λ xs ts rest e.
        let a = then_ok ((next_item closing g).reads ts) (λ (u : Option A × List Token). (and_more (at_most n closing g) u.0).reads u.1) (xs, rest) e in
        most_by (at_most n closing g) (most_law n) a.0.0 ts a.0.1 rest xs a.1 a.2;
  }

  pub items_and_law : (n : ℕ) → Law (items_and n closing g) (with_commas p) S (closed closing)
  items_and_law n = law (bind calm l (λ x. bind (closed closing) (most_law n) (λ xs. end (x ∷ xs) (λ n h. h) (rw (append-nil (behind_commas p xs)) refl))))

-- ---- members, up to a brace or the end

abbrev pub ends : Option Form → Bool
ends n = not (at is_member n)

some_long : (fs : List Form) → at is_member (first_form fs None) ≡ true → 0 < length fs
some_long [] h = absurd cc
some_long (f ∷ fs) h = omega arith

module _ {A : Type 0} (g : Grammar A) (p : A → List Form) (l : Law g p (at is_member) any) where
  member_by : (b : Bool) (o : Option A) (ts rest : List Token) → (if b then (g >>= λ x. done (Some x)).reads ts else ok_of {A = Option A × List Token} (None, ts)) ≡ Ok (o, rest) → ((None ≡ o) × (ts ≡ rest)) ⊎ ((x : A) × (Some x ≡ o) × (g.reads ts ≡ Ok (x, rest)))
  member_by false o ts rest e = inl (pair_is {A = Option A} None o ts rest e)
  member_by true o ts rest e =
      let a = then_ok (g.reads ts) (λ (u : A × List Token). ok_of {A = Option A × List Token} (Some u.0, u.1)) (o, rest) e in
      let k = pair_is {A = Option A} (Some a.0.0) o a.0.1 rest a.2 in
      inr (a.0.0, k.0, a.1 ∙ pair_of a.0.0 a.0.0 a.0.1 rest refl k.1)

  member_parts : (o : Option A) (ts rest : List Token) → (next_member g).reads ts ≡ Ok (o, rest) → ((None ≡ o) × (ts ≡ rest)) ⊎ ((x : A) × (Some x ≡ o) × (g.reads ts ≡ Ok (x, rest)))
  member_parts o ts rest e = member_by (passes is_member (first ts)) o ts rest e

  some_not_none : (x : A) → Some x ≡ None → ⊥
  some_not_none x e = absurd cc

  member_none : (ts rest : List Token) → (next_member g).reads ts ≡ Ok (None, rest) → words (forms ts) ≡ words (forms rest)
  member_none ts rest e = elim (member_parts None ts rest e) [
    | inl q ↦ ap (λ (us : List Token). words (forms us)) q.1
    | inr x ↦ absurd (some_not_none x.0 x.1)
  ]

  member_some : (x : A) (ts rest : List Token) → (next_member g).reads ts ≡ Ok (Some x, rest) → g.reads ts ≡ Ok (x, rest)
  member_some x ts rest e = elim (member_parts (Some x) ts rest e) [
    | inl q ↦ absurd (some_not_none x (sym q.0))
    | inr y ↦ y.2 ∙ pair_of y.0 x rest rest (some_is y.0 x y.1) refl
  ]

  member_read : (x : A) (all after : List Token) → passes is_member (first all) ≡ true → g.reads all ≡ Ok (x, after) → (next_member g).reads all ≡ Ok (Some x, after)
  member_read x all after e h = rw (e, h) refl

  member_canon : (x : A) (ts rest : List Token) → (next_member g).reads ts ≡ Ok (Some x, rest) → Canon (next_member g) (Some x) ts rest (p x) any any
  member_canon x ts rest e =
      let m = l.at x ts rest (member_some x ts rest e) in
      record {
        again = λ all after b r.
            let goes : passes is_member (first all) ≡ true = passes_at is_member all ∙ rw (behind_first (p x) all after b) (m.starts (next_form after) refl) in
            member_read x all after goes (m.again all after b r);
        same = m.same;
        starts = λ next r. refl;
      }

  member_law : StepLaw (next_member g) p any ends
  member_law = record {
    none = member_none;
    some = member_canon;
    long = λ x ts rest e. some_long (p x) ((l.at x ts rest (member_some x ts rest e)).starts None refl);
    stop = λ all r. if_false (passes is_member (first all)) _ _ (passes_at is_member all ∙ is_not _ r);
    calm = λ next r. refl;
  }

  pub members_law : Law (members g) (flat_map p) any ends
  members_law = steps_law (next_member g) p any ends member_law
