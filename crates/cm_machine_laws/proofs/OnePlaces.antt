-- Why each resource stays in one place.
use Rattle.std.proofs.Common.{◌≡◌, ◌≢◌, ℕ, ◌⊎◌, inl, inr, List, [], ◌∷◌, ◌++◌, Some, None, refl}
use Rattle.std.proofs.Common.{sym, ap, subst, ◌∙◌}
use Rattle.std.proofs.lemmas.Bool.{cases_eq}
use Rattle.std.proofs.lemmas.Option.{none-some, same_Some}
use Rattle.cm_handles.specs.declared.handle.Handle.{Handle}
use Rattle.cm_handles.specs.declared.handle.HandleKind.TheVariants as handle
use Rattle.cm_machine_model.specs.declared.frame.Place.TheVariants as place
use Rattle.cm_machine_model.specs.Owning.{AreApart, HaveOnePlace, IsAmong, Owners, Owns, Standing}
use Rattle.cm_machine_laws.proofs.OwningLaws.{ChangesAt, MovesTo}

-- ---- numbers in a row

pub among_left : (xs ys : List ℕ) (n : ℕ) → IsAmong xs n → IsAmong (xs ++ ys) n
among_left [] ys n a = absurd a
among_left (x ∷ xs) ys n (inl e) = inl e
among_left (x ∷ xs) ys n (inr a) = inr (among_left xs ys n a)

pub among_last : (xs : List ℕ) (n : ℕ) → IsAmong (xs ++ n ∷ []) n
among_last [] n = inl refl
among_last (x ∷ xs) n = inr (among_last xs n)

pub among_split : (xs : List ℕ) (n m : ℕ) → IsAmong (xs ++ n ∷ []) m → IsAmong xs m ⊎ (n ≡ m)
among_split [] n m (inl e) = inr e
among_split [] n m (inr a) = absurd a
among_split (x ∷ xs) n m (inl e) = inl (inl e)
among_split (x ∷ xs) n m (inr a) =
    elim (among_split xs n m a) as (λ r. IsAmong (x ∷ xs) m ⊎ (n ≡ m)) [ inl b ↦ inl (inr b) | inr e ↦ inr e ]

pub apart_last : (xs : List ℕ) (n : ℕ) → AreApart xs → (IsAmong xs n → ⊥) → AreApart (xs ++ n ∷ [])
apart_last [] n a none = (λ b. b, tt)
apart_last (x ∷ xs) n a none = (
  λ b. elim (among_split xs n x b) as (λ r. ⊥) [ inl c ↦ a.0 c | inr e ↦ none (inl (sym e)) ],
  apart_last xs n a.1 (λ b. none (inr b)),
)

-- ---- places

pub place_of_owned : (at : Standing) (owner : Owners) (frame : ℕ) (away : List ℕ) (i index : ℕ) (h : Handle) → HaveOnePlace at owner frame away
    → at i index ≡ Some h → h.kind ≡ handle.Owned → owner h.serial ≡ Some (place.InTable i index)
place_of_owned at owner frame away i index h p stands is_owned =
    p.owned h.serial i index (record { entry = h; stands = stands; owned = is_owned; serial_is = refl })

same_table : (i j k l : ℕ) → Some (place.InTable i k) ≡ Some (place.InTable j l) → (i ≡ j) × (k ≡ l)
same_table i j k l e = (cc (e), cc (e))

not_both : (i k f : ℕ) → Some (place.InTable i k) ≡ Some (place.Travelling f) → ⊥
not_both i k f e = cc (e)

same_frame : (f g : ℕ) → Some (place.Travelling f) ≡ Some (place.Travelling g) → f ≡ g
same_frame f g e = cc (e)

pub taking : (at new : Standing) (owner moved : Owners) (frame : ℕ) (away : List ℕ) (i index : ℕ) (h : Handle)
    → HaveOnePlace at owner frame away → at i index ≡ Some h → h.kind ≡ handle.Owned
    → ChangesAt at new i index None → MovesTo owner moved h.serial (place.Travelling frame)
    → HaveOnePlace new moved frame (away ++ h.serial ∷ [])
taking at new owner moved frame away i index h p stands is_owned ch mv = record {
  in_table = λ n j q e. elim (cases_eq n h.serial) as (λ r. Owns new n j q) [
    | inl same ↦ absurd (not_both j q frame (sym e ∙ (ap moved same ∙ mv.here)))
    | inr apart ↦
        let was = p.in_table n j q (sym (mv.others n apart) ∙ e) in
        let other : (j ≡ i) × (q ≡ index) → ⊥ = λ b. apart (sym was.serial_is ∙ ap (λ (x : Handle). x.serial) (same_Some was.entry h (sym was.stands ∙ (ap (λ x. at x q) b.0 ∙ (ap (λ x. at i x) b.1 ∙ stands))))) in
        record { entry = was.entry; stands = ch.others j q other ∙ was.stands; owned = was.owned; serial_is = was.serial_is }
  ];
  owned = λ n j q o.
      let other : (j ≡ i) × (q ≡ index) → ⊥ = λ b. none-some o.entry (sym ch.here ∙ (ap (λ x. new i x) (sym b.1) ∙ (ap (λ x. new x q) (sym b.0) ∙ o.stands))) in
      let was = p.owned n j q (record { entry = o.entry; stands = sym (ch.others j q other) ∙ o.stands; owned = o.owned; serial_is = o.serial_is }) in
      let apart : n ≢ h.serial = λ e. other (same_table j i q index (sym was ∙ (ap owner e ∙ place_of_owned at owner frame away i index h p stands is_owned))) in
      mv.others n apart ∙ was;
  on_its_way = λ n f e. elim (cases_eq n h.serial) as (λ r. (f ≡ frame) × IsAmong (away ++ h.serial ∷ []) n) [
    | inl same ↦ (same_frame f frame (sym e ∙ (ap moved same ∙ mv.here)), subst (λ x. IsAmong (away ++ h.serial ∷ []) x) (sym same) (among_last away h.serial))
    | inr apart ↦ let was = p.on_its_way n f (sym (mv.others n apart) ∙ e) in (was.0, among_left away (h.serial ∷ []) n was.1)
  ];
  carried = λ n a. elim (among_split away h.serial n a) as (λ r. moved n ≡ Some (place.Travelling frame)) [
    | inl b ↦
        let was = p.carried n b in
        let apart : n ≢ h.serial = λ e. not_both i index frame (sym (place_of_owned at owner frame away i index h p stands is_owned) ∙ (ap owner (sym e) ∙ was)) in
        mv.others n apart ∙ was
    | inr e ↦ ap moved (sym e) ∙ mv.here
  ];
  once = apart_last away h.serial p.once (λ a. not_both i index frame (sym (place_of_owned at owner frame away i index h p stands is_owned) ∙ p.carried h.serial a));
}

pub giving : (at new : Standing) (owner moved : Owners) (frame : ℕ) (away : List ℕ) (i index : ℕ) (h : Handle)
    → HaveOnePlace at owner frame (h.serial ∷ away) → at i index ≡ None → h.kind ≡ handle.Owned
    → ChangesAt at new i index (Some h) → MovesTo owner moved h.serial (place.InTable i index)
    → HaveOnePlace new moved frame away
giving at new owner moved frame away i index h p vacant is_owned ch mv = record {
  in_table = λ n j q e. elim (cases_eq n h.serial) as (λ r. Owns new n j q) [
    | inl same ↦
        let here = same_table j i q index (sym e ∙ (ap moved same ∙ mv.here)) in
        record { entry = h; stands = ap (λ x. new x q) here.0 ∙ (ap (λ x. new i x) here.1 ∙ ch.here); owned = is_owned; serial_is = sym same }
    | inr apart ↦
        let was = p.in_table n j q (sym (mv.others n apart) ∙ e) in
        let other : (j ≡ i) × (q ≡ index) → ⊥ = λ b. none-some was.entry (sym vacant ∙ (ap (λ x. at i x) (sym b.1) ∙ (ap (λ x. at x q) (sym b.0) ∙ was.stands))) in
        record { entry = was.entry; stands = ch.others j q other ∙ was.stands; owned = was.owned; serial_is = was.serial_is }
  ];
  owned = λ n j q o. elim (cases_eq j i) as (λ r. moved n ≡ Some (place.InTable j q)) [
    | inl sj ↦ elim (cases_eq q index) as (λ r. moved n ≡ Some (place.InTable j q)) [
      | inl sq ↦
          let entry_is : h ≡ o.entry = same_Some h o.entry (sym ch.here ∙ (ap (λ x. new i x) (sym sq) ∙ (ap (λ x. new x q) (sym sj) ∙ o.stands))) in
          let serial_is : n ≡ h.serial = sym o.serial_is ∙ sym (ap (λ (x : Handle). x.serial) entry_is) in
          ap moved serial_is ∙ (mv.here ∙ (ap (λ x. Some (place.InTable x index)) (sym sj) ∙ ap (λ x. Some (place.InTable j x)) (sym sq)))
      | inr aq ↦ rest n j q o (λ b. aq b.1)
    ]
    | inr aj ↦ rest n j q o (λ b. aj b.0)
  ];
  on_its_way = λ n f e. elim (cases_eq n h.serial) as (λ r. (f ≡ frame) × IsAmong away n) [
    | inl same ↦ absurd (not_both i index f (sym mv.here ∙ (ap moved (sym same) ∙ e)))
    | inr apart ↦
        let was = p.on_its_way n f (sym (mv.others n apart) ∙ e) in
        (was.0, elim was.1 as (λ r. IsAmong away n) [ inl s ↦ absurd (apart (sym s)) | inr a ↦ a ])
  ];
  carried = λ n a.
      let apart : n ≢ h.serial = λ e. p.once.0 (subst (λ x. IsAmong away x) e a) in
      mv.others n apart ∙ p.carried n (inr a);
  once = p.once.1;
} where
  rest : (n j q : ℕ) → Owns new n j q → ((j ≡ i) × (q ≡ index) → ⊥) → moved n ≡ Some (place.InTable j q)
  rest n j q o other =
      let was = p.owned n j q (record { entry = o.entry; stands = sym (ch.others j q other) ∙ o.stands; owned = o.owned; serial_is = o.serial_is }) in
      let apart : n ≢ h.serial = λ e. not_both j q frame (sym was ∙ (ap owner e ∙ p.carried h.serial (inl refl))) in
      mv.others n apart ∙ was

pub changing : (at new : Standing) (owner : Owners) (frame : ℕ) (away : List ℕ) (i index : ℕ) (h k : Handle)
    → HaveOnePlace at owner frame away → at i index ≡ Some h → ChangesAt at new i index (Some k)
    → k.kind ≡ h.kind → k.serial ≡ h.serial → HaveOnePlace new owner frame away
changing at new owner frame away i index h k p stands ch kind serial = record {
  in_table = λ n j q e.
      let was = p.in_table n j q e in
      elim (cases_eq j i) as (λ r. Owns new n j q) [
        | inl sj ↦ elim (cases_eq q index) as (λ r. Owns new n j q) [
          | inl sq ↦
              let entry_is : was.entry ≡ h = same_Some was.entry h (sym was.stands ∙ (ap (λ x. at x q) sj ∙ (ap (λ x. at i x) sq ∙ stands))) in
              record {
                entry = k;
                stands = ap (λ x. new x q) sj ∙ (ap (λ x. new i x) sq ∙ ch.here);
                owned = kind ∙ (sym (ap (λ (x : Handle). x.kind) entry_is) ∙ was.owned);
                serial_is = serial ∙ (sym (ap (λ (x : Handle). x.serial) entry_is) ∙ was.serial_is);
              }
          | inr aq ↦ record { entry = was.entry; stands = ch.others j q (λ b. aq b.1) ∙ was.stands; owned = was.owned; serial_is = was.serial_is }
        ]
        | inr aj ↦ record { entry = was.entry; stands = ch.others j q (λ b. aj b.0) ∙ was.stands; owned = was.owned; serial_is = was.serial_is }
      ];
  owned = λ n j q o. elim (cases_eq j i) as (λ r. owner n ≡ Some (place.InTable j q)) [
    | inl sj ↦ elim (cases_eq q index) as (λ r. owner n ≡ Some (place.InTable j q)) [
      | inl sq ↦
          let entry_is : k ≡ o.entry = same_Some k o.entry (sym ch.here ∙ (ap (λ x. new i x) (sym sq) ∙ (ap (λ x. new x q) (sym sj) ∙ o.stands))) in
          p.owned n j q (record {
            entry = h;
            stands = ap (λ x. at x q) sj ∙ (ap (λ x. at i x) sq ∙ stands);
            owned = sym kind ∙ (ap (λ (x : Handle). x.kind) entry_is ∙ o.owned);
            serial_is = sym serial ∙ (ap (λ (x : Handle). x.serial) entry_is ∙ o.serial_is);
          })
      | inr aq ↦ p.owned n j q (record { entry = o.entry; stands = sym (ch.others j q (λ b. aq b.1)) ∙ o.stands; owned = o.owned; serial_is = o.serial_is })
    ]
    | inr aj ↦ p.owned n j q (record { entry = o.entry; stands = sym (ch.others j q (λ b. aj b.0)) ∙ o.stands; owned = o.owned; serial_is = o.serial_is })
  ];
  on_its_way = p.on_its_way;
  carried = p.carried;
  once = p.once;
}
