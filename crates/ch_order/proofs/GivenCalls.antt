-- Given nodes that are contracted as they come, one call after the other.
use Rattle.std.proofs.Common.{◌≡◌, ℕ, ◌+◌, ◌<◌, ◌≤◌, List, ◌++◌, length, take, sym, ◌∙◌, ap, subst, arith, inl, inr, get_or, zero, suc}
use Rattle.std.proofs.Common.{Contains, length-append}
use Rattle.std.specs.Prelude.{slice_index}
use Rattle.std.proofs.lemmas.Bool.{cases_eq}
use Rattle.std.proofs.lemmas.List.{take_more, length-take-le, get_or_append_left}
use Rattle.ch_graph.specs.Graph.{Network}
use Rattle.ch_contract.specs.Begun.{AreDifferentNodes, IsBegun}
use Rattle.ch_contract.specs.Contraction.{Contracts}
use Rattle.ch_contract.specs.Legs.{Legs, AreLegsWithin}
use Rattle.ch_contract.specs.Remaining.{legs_of}
use Rattle.ch_hierarchy.specs.Saved.{IsOrderOf}
use Rattle.ch_contract.proofs.theory.Contracting.{pairs_by_needed}
use Rattle.ch_contract.proofs.theory.GivenNodes.{order_nodes}
use Rattle.ch_contract.proofs.theory.OneInTurn.{not_before, one_contraction, one_map}
use Rattle.ch_order.specs.declared.construction.Construction.{Construction}
use Rattle.ch_order.specs.Construction.{HasGiven, IsReadyFor, IsSized, IsTaken, progress_of}
use Rattle.ch_order.specs.Crowded.{IsCrowded}
use Rattle.ch_order.specs.Progress.{IsContraction}
use Rattle.ch_order.specs.Steps.{IsAfterGiven}
use Rattle.ch_order.proofs.ConstructionCalls.{taken_step}
use Rattle.ch_order.proofs.StepsMade.{count_fewer, depth_within, given_more, legs_within}

-- in two constructions the same given nodes leave the same legs
one_begun : (g : Network) (h : ℕ) (order : List ℕ) (L M : ℕ → Legs) → IsBegun g h order L → IsBegun g h order M → (k : ℕ) →
    k ≤ length order → L k ≡ M k
one_begun g h order L M a b zero le = one_map (L 0) (M 0) (λ u w. a.start u w ∙ sym (b.start u w))
one_begun g h order L M a b (suc k) le =
    let same = one_begun g h order L M a b k (omega arith) in
    let next : k + 1 ≡ suc k = omega arith in
    subst (λ i. L i ≡ M i) next (one_contraction g.nodes h (L k) (slice_index order k) (L (k + 1)) (M (k + 1)) (a.step k (omega arith))
    (subst (λ (K : Legs). Contracts g.nodes h K (slice_index order k) (M (k + 1))) (sym same) (b.step k (omega arith))))

module _ (g : Network) (h : ℕ) (nodes : List ℕ) (k : ℕ) (c : Construction) (different : AreDifferentNodes g nodes) (lt : k < length nodes)
    (u : HasGiven g h (take k nodes) c) where
  -- the next given node is none of those before it
  left : Contains (take k nodes) (slice_index nodes k) → ⊥
  left = not_before k nodes lt different.1

  -- the next given node can be contracted
  pub ready_given : IsReadyFor h c (get_or nodes k 0)
  ready_given =
      let v : ℕ = get_or nodes k 0 in
      let node = different.0 k 0 lt in record {
        sizes = u.sizes;
        limits = subst (λ n. AreLegsWithin n (legs_of c.remaining)) (sym u.nodes)
            (legs_within _ _ _ _ _ u.after.after (pairs_by_needed _ _));
        node = subst (λ n. v < n) (sym u.nodes) node;
        count = subst (λ n. c.contracted < n) (sym u.nodes) (count_fewer _ _ _ _ _ u.after.after v node left);
        depth = depth_within _ _ _ _ _ u.after.after v;
        ready = u.ready;
      }

  -- when it is, one more given node is contracted
  pub given_taken : (neighbours : List ℕ) (d : Construction) → IsSized d → IsTaken h c (get_or nodes k 0) neighbours d →
      HasGiven g h (take (k + 1) nodes) d
  given_taken neighbours d sizes t =
      let v : ℕ = get_or nodes k 0 in
      let step = subst (λ n. IsContraction n h (progress_of c) v (progress_of d)) u.nodes (taken_step h c v neighbours d d.waiting t) in
      record {
        sizes = sizes;
        nodes = t.nodes ∙ u.nodes;
        after = subst (λ l. IsAfterGiven g h l (progress_of d)) (sym (take_more nodes k 0 lt))
            (given_more _ _ _ _ v _ u.after (different.0 k 0 lt) left step t.waiting);
        ready = t.ready;
      }

  -- as many nodes are contracted
  pub given_count_now : c.contracted ≡ k
  given_count_now = u.after.after.contracted ∙ length-take-le k nodes (omega arith)

  -- the legs of any construction with the same given nodes
  pub given_legs : (L : ℕ → Legs) → IsBegun g h (take k nodes) L → L k ≡ legs_of c.remaining
  given_legs L begun =
      let size = length-take-le k nodes (omega arith) in
      one_begun g h (take k nodes) L u.after.L begun u.after.after.begun k (omega (arith, size))
      ∙ ap u.after.L (sym size) ∙ one_map (u.after.L (length (take k nodes))) (legs_of c.remaining) u.after.after.legs

-- none of the first k given nodes is crowded in its turn
abbrev pub AreFew : Network → ℕ → List ℕ → ℕ → Type 0
AreFew g h nodes k =
    (j : ℕ) (L : ℕ → Legs) → j < k → IsBegun g h (take j nodes) L → IsCrowded g.nodes j (L j) (slice_index nodes j) → ⊥

-- one more given node is not crowded
pub few_more : (g : Network) (h : ℕ) (nodes : List ℕ) (k : ℕ) (c : Construction) → AreDifferentNodes g nodes → k < length nodes →
    HasGiven g h (take k nodes) c → AreFew g h nodes k →
    (IsCrowded c.remaining.nodes c.contracted (legs_of c.remaining) (get_or nodes k 0) → ⊥) → AreFew g h nodes (k + 1)
few_more g h nodes k c different lt u few not j L below begun crowded = elim (cases_eq j k) [
  | inl is ↦
      let start = subst (λ i. IsBegun g h (take i nodes) L) is begun in
      let at = subst (λ i. IsCrowded g.nodes i (L i) (slice_index nodes i)) is crowded in
      let here = subst (λ (M : Legs). IsCrowded g.nodes k M (slice_index nodes k)) (given_legs g h nodes k c different lt u L start) at in
      not (subst (λ n. IsCrowded n c.contracted (legs_of c.remaining) (get_or nodes k 0)) (sym u.nodes)
      (subst (λ i. IsCrowded g.nodes i (legs_of c.remaining) (get_or nodes k 0)) (sym (given_count_now g h nodes k c different lt u)) here))
  | inr ne ↦ few j L (omega arith) begun crowded
]

-- the nodes that an order begins with are different nodes
pub first_differ : (g : Network) (given others : List ℕ) → IsOrderOf g.nodes (given ++ others) → AreDifferentNodes g given
first_differ g given others is =
    let nodes = order_nodes g.nodes (given ++ others) is in
    let size = length-append given others in (
      λ i d lt. subst (λ z. z < g.nodes) (get_or_append_left given others d i lt) (nodes.1 i d (omega arith)),
      λ i j d before lt e. nodes.2 i j d before (omega arith)
          (get_or_append_left given others d i (omega arith) ∙ e ∙ sym (get_or_append_left given others d j lt)),
    )
