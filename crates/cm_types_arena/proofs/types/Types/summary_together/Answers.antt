use Rattle.std.proofs.Common.{◌≡◌, ℕ, ◌+◌, ◌<◌, ◌≤◌, max, List, map, length, get_or, drop, sym, ap, ◌∙◌, arith}
use Rattle.std.proofs.Math.Bool.{or-false, or_assoc}
use Rattle.std.proofs.lemmas.List.{at_drop_more, at_drop_all}
use Rattle.cm_types.specs.Types.{Ty}
use Rattle.cm_types.specs.declared.limits.TheConstants.{MAX_NODES}
use Rattle.cm_types_arena.specs.declared.summaries.Summary.{Summary}
use Rattle.cm_types_arena.specs.Places.{types_of}
use Rattle.cm_types_arena.specs.Summaries.{beside, no_summary, summary_of, summary_of_all}
use Rattle.cm_types_arena.specs.TypeDefs.{type_at}
use Rattle.cm_types_arena.proofs.types.Types.summary_together.Goals as goal

beside_assoc : (a b s : Summary) → beside (beside a b) s ≡ beside a (beside b s)
beside_assoc a b s =
    let nodes : (a.nodes + b.nodes) + s.nodes ≡ a.nodes + (b.nodes + s.nodes) = omega arith in
    let depth : max (max a.depth b.depth) s.depth ≡ max a.depth (max b.depth s.depth) = omega arith in
    cc (nodes, depth, or_assoc a.holds_string b.holds_string s.holds_string, or_assoc a.holds_list b.holds_list s.holds_list, or_assoc a.holds_borrow b.holds_borrow s.holds_borrow, or_assoc a.holds_handle b.holds_handle s.holds_handle)

-- a summary, field by field
abbrev by_field : Summary → Summary
by_field s =
    record {
      nodes = s.nodes;
      depth = s.depth;
      holds_string = s.holds_string;
      holds_list = s.holds_list;
      holds_borrow = s.holds_borrow;
      holds_handle = s.holds_handle;
    }

none_beside : (s : Summary) → beside no_summary s ≡ s
none_beside s =
    let nodes : 0 + s.nodes ≡ s.nodes = omega arith in
    let depth : max 0 s.depth ≡ s.depth = omega arith in
    let e : beside no_summary s ≡ by_field s = cc (nodes, depth) in
    e

beside_none : (s : Summary) → beside s no_summary ≡ s
beside_none s =
    let nodes : s.nodes + 0 ≡ s.nodes = omega arith in
    let depth : max s.depth 0 ≡ s.depth = omega arith in
    let e : beside s no_summary ≡ by_field s = cc (nodes, depth, or-false s.holds_string, or-false s.holds_list, or-false s.holds_borrow, or-false s.holds_handle) in
    e

abbrev together : List Ty → List ℕ → Summary
together types ps = summary_of_all (map (type_at types) ps)

-- one more is beside what is there so far
one_more : (types : List Ty) (ps : List ℕ) (i : ℕ) (so_far part whole : Summary) → i < length ps → part ≡ summary_of (type_at types (get_or ps i 0))
    → beside so_far (together types (drop i ps)) ≡ whole → beside (beside so_far part) (together types (drop (i + 1) ps)) ≡ whole
one_more types ps i so_far part whole lt is h =
    beside_assoc so_far part (together types (drop (i + 1) ps))
    ∙ ap (λ (p : Summary). beside so_far (beside p (together types (drop (i + 1) ps)))) is
    ∙ sym (ap (beside so_far) (at_drop_more (together types) ps i 0 lt))
    ∙ h

too_many : (m part rest whole : Summary) → beside (beside m part) rest ≡ whole → (m.nodes + part.nodes ≤ MAX_NODES → ⊥) → whole.nodes ≤ MAX_NODES → ⊥
too_many m part rest whole e over within =
    let known : (m.nodes + part.nodes) + rest.nodes ≡ whole.nodes = ap (λ (s : Summary). s.nodes) e in
    over (omega arith)

pub loop-place-init : goal.loop-place-init
loop-place-init c =
    let all = together (types_of c.args.self.now) c.args.places.now in
    record {
      within = omega (arith, ap (λ (s : Summary). s.nodes) c.none-together.ensures);
      whole = ap (λ (s : Summary). beside s all) c.none-together.ensures ∙ none_beside all;
    }

pub loop-place-preserved : goal.loop-place-preserved
loop-place-preserved c =
    let types = types_of c.args.self.now in
    let ps = c.args.places.now in
    let i = c.loop-place.place-index in
    record {
      within = omega (arith, ap (λ (s : Summary). s.nodes) c.in_ok-together.ensures.1, c.in_ok-together.ensures.0);
      whole = ap (λ (s : Summary). beside s (together types (drop (i + 1) ps))) c.in_ok-together.ensures.1
          ∙ one_more types ps i c.loop-place.together c.summary_at.result (together types ps) c.loop-place-test.true c.summary_at.ensures c.loop-place.invariant.whole;
    }

pub returns-in_err-together : goal.returns-in_err-together
returns-in_err-together c =
    let types = types_of c.args.self.now in
    let ps = c.args.places.now in
    let i = c.loop-place.place-index in
    let all = one_more types ps i c.loop-place.together c.summary_at.result (together types ps) c.loop-place-test.true c.summary_at.ensures c.loop-place.invariant.whole in
    rw c.from_residual.ensures (too_many c.loop-place.together c.summary_at.result (together types (drop (i + 1) ps)) (together types ps) all c.in_err-together.ensures)

pub returns : goal.returns
returns c =
    let types = types_of c.args.self.now in
    let ps = c.args.places.now in
    let m = c.loop-place.together in
    let all : m ≡ together types ps = sym (beside_none m) ∙ sym (ap (beside m) (at_drop_all (together types) ps c.loop-place.place-index c.loop-place-test.false)) ∙ c.loop-place.invariant.whole in
    (omega (arith, c.loop-place.invariant.within, ap (λ (s : Summary). s.nodes) all), all)
