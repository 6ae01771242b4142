-- Shortcuts between near neighbours: there is one for each two of them, because chains that avoid the node weigh more.
use Rattle.std.proofs.Common.{◌≡◌, ℕ, suc, ◌+◌, ◌-◌, ◌*◌, ◌<◌, ◌≤◌, Bool, true, false, List, [], ◌∷◌, ◌++◌, length, get_or, Some, Contains}
use Rattle.std.proofs.Common.{refl, sym, ◌∙◌, ap, subst, arith, inl, inr, All, IsTrue, length-append}
use Rattle.std.specs.Prelude.{◌≢◌, AllPairs, if◌then◌else◌}
use Rattle.std.specs.List.{AllByRecursion}
use Rattle.std.proofs.Math.Nat.{mul-le-mul, suc-mul}
use Rattle.std.proofs.lemmas.Bool.{cases_eq}
use Rattle.std.proofs.lemmas.List.{length_push}
use Rattle.std.proofs.lemmas.List.Elements.{Contains-append_cases, Contains-push_cases}
use Rattle.ch_graph.specs.declared.limits.TheConstants.{MOST_WEIGHT}
use Rattle.ch_graph.specs.Cost.{cost_sum}
use Rattle.ch_graph.proofs.Lists.{contains_none, contains_cons, contains_head, contains_tail}
use Rattle.ch_graph.proofs.Lists.{pairs_head, pairs_tail, pairs_cons, pairs_append}
use Rattle.ch_hierarchy.specs.declared.leg.Leg.{Leg}
use Rattle.ch_hierarchy.specs.Rows.{IsRow}
use Rattle.ch_hierarchy.proofs.theory.NoLeg.{no_leg}
use Rattle.ch_contract.specs.declared.leg_lists.End.{End}
use Rattle.ch_contract.specs.declared.shortcut.Shortcut.{Shortcut}
use Rattle.ch_contract.specs.Legs.{Label, Legs, turned_legs, leg_cost, IsChain, chain_cost, AreLegsWithin}
use Rattle.ch_contract.specs.LegRows.{label_of, AreLegsFrom}
use Rattle.ch_contract.specs.Contraction.{IsShortcut, IsPairBefore, AreShortcuts}
use Rattle.ch_contract.specs.Near.{IsNear, AreNear, seen_from}
use Rattle.ch_contract.proofs.code.Counted.{fewer}
use Rattle.ch_contract.proofs.code.ShortcutLemmas.{IsBoundary, boundary_next}
use Rattle.ch_contract.proofs.theory.Listing.{one_more}
use Rattle.ch_contract.proofs.theory.WitnessSearch.{some_of}
use Rattle.ch_contract.proofs.theory.RowLegs.{leg_at, row_member}

module _ (n : ℕ) (L : Legs) (v : ℕ) where
  -- a chain that leaves a near node weighs more than twice the leg to v
  heavy_start : (u w x : ℕ) (xs : List ℕ) (near : IsNear n L v u) → IsChain L u w (x ∷ xs) → x ≢ v →
      2 * near.leg.cost.weight < (chain_cost L u (x ∷ xs)).weight
  heavy_start u w x xs near chain ne =
      let l = some_of (L u x) chain.0 in
      let over = near.away x l.0 l.1 ne in
      let first : (leg_cost (L u x)).weight ≡ l.0.cost.weight = ap (λ o. (leg_cost o).weight) l.1 in
      omega (arith, over, first)

  -- a chain that comes to a near node weighs more than twice the leg from v
  heavy_end : (u w x : ℕ) (xs : List ℕ) (near : IsNear n (turned_legs L) v w) → IsChain L u w (x ∷ xs) → u ≢ v →
      AllByRecursion (λ y. y ≢ v) (x ∷ xs) → 2 * near.leg.cost.weight < (chain_cost L u (x ∷ xs)).weight
  heavy_end u w x [] near chain ne away =
      let l = some_of (L u x) chain.0 in
      let over = near.away u l.0 (subst (λ z. L u z ≡ Some l.0) chain.1 l.1) ne in
      let first : (leg_cost (L u x)).weight ≡ l.0.cost.weight = ap (λ o. (leg_cost o).weight) l.1 in
      omega (arith, over, first)
  heavy_end u w x (y ∷ ys) near chain ne away =
      let rest = heavy_end x w y ys near chain.1 away.0 away.1 in
      omega (arith, rest)

  -- the pair of legs from u over v to w
  abbrev over : (u w : ℕ) → IsNear n L v u → IsNear n (turned_legs L) v w → Shortcut
  over u w p q = record { from = u; to = w; cost = cost_sum p.leg.cost q.leg.cost }

  -- it is a shortcut
  sure : (h u w : ℕ) (p : IsNear n L v u) (q : IsNear n (turned_legs L) v w) → u ≢ w → IsShortcut n h L v (over u w p q)
  sure h u w p q ne = record {
    apart = ne;
    legs = (p.leg, q.leg, p.leads, q.leads, refl);
    weight = omega (arith, p.weight, q.weight);
    arcs = omega (arith, p.arcs, q.arcs);
    needed = λ has. at has.0 has.1.chain has.1.hops.0 has.1.away.0 has.1.away.1 has.1.cheap.0;
  }
    where
      at : (xs : List ℕ) → IsChain L u w xs → 0 < length xs → u ≢ v → AllByRecursion (λ x. x ≢ v) xs →
          (chain_cost L u xs).weight ≤ (cost_sum p.leg.cost q.leg.cost).weight → ⊥
      at [] chain some off away cheap = omega (arith, some)
      at (x ∷ xs) chain some off away cheap =
          let first = heavy_start u w x xs p chain away.0 in
          let last = heavy_end u w x xs q chain off away in
          omega (arith, first, last, cheap)

  -- the list has shortcuts from u to some of these nodes, in order
  record IsLine (h u : ℕ) (ws : List ℕ) (list : List Shortcut) : Type 0 where
    ordered : AllPairs IsPairBefore list
    sound : (s : Shortcut) → Contains list s → IsShortcut n h L v s × (s.from ≡ u) × Contains ws s.to

  -- one more node comes before the others
  line_more : (h u w : ℕ) (ws : List ℕ) (list : List Shortcut) (p : IsNear n L v u) (q : IsNear n (turned_legs L) v w) → u ≢ w →
      ((x : ℕ) → Contains ws x → w < x) → IsLine h u ws list → IsLine h u (w ∷ ws) (over u w p q ∷ list)
  line_more h u w ws list p q ne first is = record {
    ordered = pairs_cons IsPairBefore (over u w p q) list (λ s c. let at = is.sound s c in let from = at.1 in let lt = first s.to at.2 in
        (omega arith, λ back. lt)) is.ordered;
    sound = λ s c. elim (contains_cons (over u w p q) s list c) [
      | inl e ↦ subst (λ (z : Shortcut). IsShortcut n h L v z × (z.from ≡ u) × Contains (w ∷ ws) z.to) e
          (sure h u w p q ne, refl, contains_head w ws)
      | inr later ↦ let at = is.sound s later in (at.0, at.1, contains_tail s.to w ws at.2)
    ];
  }

  -- the list grows past a node that it leaves out
  line_past : (h u w : ℕ) (ws : List ℕ) (list : List Shortcut) → IsLine h u ws list → IsLine h u (w ∷ ws) list
  line_past h u w ws list is = record {
    ordered = is.ordered;
    sound = λ s c. let at = is.sound s c in (at.0, at.1, contains_tail s.to w ws at.2);
  }

  -- there is no shortcut to no node
  line_none : (h u : ℕ) → IsLine h u [] []
  line_none h u = record { ordered = λ i j d lt inside. absurd (omega arith); sound = λ s c. absurd (contains_none s c) }

  -- a near node has a shortcut to each other near node
  line_apart : (h u : ℕ) → IsNear n L v u → (ws : List ℕ) → AllPairs ◌<◌ ws → ((w : ℕ) → Contains ws w → IsNear n (turned_legs L) v w) →
      ((w : ℕ) → Contains ws w → u ≢ w) → (list : List Shortcut) × IsLine h u ws list × (length ws ≤ length list)
  line_apart h u p [] ordered near apart = ([], line_none h u, omega arith)
  line_apart h u p (w ∷ ws) ordered near apart =
      let rest = line_apart h u p ws (pairs_tail ◌<◌ w ws ordered) (λ x c. near x (contains_tail x w ws c))
      (λ x c. apart x (contains_tail x w ws c)) in
      let q = near w (contains_head w ws) in
      let more = rest.2 in (
        over u w p q ∷ rest.0,
        line_more h u w ws rest.0 p q (apart w (contains_head w ws)) (λ x c. pairs_head ◌<◌ w x ws ordered c) rest.1,
        omega arith,
      )

  -- of near nodes, one is the node itself at most
  line : (h u : ℕ) → IsNear n L v u → (ws : List ℕ) → AllPairs ◌<◌ ws → ((w : ℕ) → Contains ws w → IsNear n (turned_legs L) v w) →
      (list : List Shortcut) × IsLine h u ws list × (length ws ≤ suc (length list))
  line h u p [] ordered near = ([], line_none h u, omega arith)
  line h u p (w ∷ ws) ordered near = elim (cases_eq u w) [
    | inl e ↦
        let rest = line_apart h u p ws (pairs_tail ◌<◌ w ws ordered) (λ x c. near x (contains_tail x w ws c))
        (λ x c same. let lt = pairs_head ◌<◌ w x ws ordered c in omega (arith, e, same, lt)) in
        let more = rest.2 in (rest.0, line_past h u w ws rest.0 rest.1, omega arith)
    | inr ne ↦
        let rest = line h u p ws (pairs_tail ◌<◌ w ws ordered) (λ x c. near x (contains_tail x w ws c)) in
        let q = near w (contains_head w ws) in
        let more = rest.2 in (
          over u w p q ∷ rest.0,
          line_more h u w ws rest.0 p q ne (λ x c. pairs_head ◌<◌ w x ws ordered c) rest.1,
          omega arith,
        )
  ]

  -- near nodes have so many shortcuts between them
  grid : (h : ℕ) (us ws : List ℕ) → AllPairs ◌<◌ us → AllPairs ◌<◌ ws → ((u : ℕ) → Contains us u → IsNear n L v u) →
      ((w : ℕ) → Contains ws w → IsNear n (turned_legs L) v w) → (list : List Shortcut) × AllPairs IsPairBefore list
      × ((s : Shortcut) → Contains list s → IsShortcut n h L v s × Contains us s.from) × (length us * (length ws - 1) ≤ length list)
  grid h [] ws ordered first near last =
      ([], (λ i j d lt inside. absurd (omega arith)), (λ s c. absurd (contains_none s c)), omega arith)
  grid h (u ∷ us) ws ordered first near last =
      let here = line h u (near u (contains_head u us)) ws first last in
      let rest = grid h us ws (pairs_tail ◌<◌ u us ordered) first (λ x c. near x (contains_tail x u us c)) last in (
        here.0 ++ rest.0,
        pairs_append IsPairBefore here.0 rest.0 here.1.ordered rest.1 (λ s t c d. let from = (here.1.sound s c).1 in
            let lt = pairs_head ◌<◌ u t.from us ordered (rest.2 t d).1 in (omega arith, λ back. absurd (omega arith))),
        λ s c. elim (Contains-append_cases here.0 rest.0 s c) [
          | inl one ↦ let at = here.1.sound s one in (at.0, subst (Contains (u ∷ us)) (sym at.1) (contains_head u us))
          | inr more ↦ let at = rest.2 s more in (at.0, contains_tail s.from u us at.1)
        ],
        longer (length us) (length ws) (length here.0) (length rest.0) (length (here.0 ++ rest.0)) here.2 rest.3
            (length-append here.0 rest.0),
      )
    where
      longer : (a b c d e : ℕ) → b ≤ suc c → a * (b - 1) ≤ d → e ≡ c + d → suc a * (b - 1) ≤ e
      longer a b c d e one many sum =
          let product = suc-mul a (b - 1) in
          let less : b - 1 ≤ c = omega (arith, one) in
          omega (arith, product, less, many, sum)

  -- a node has at least as many shortcuts as its near neighbours have between them
  pub near_shortcuts : (h p q : ℕ) (list : List Shortcut) → AreNear n L v p → AreNear n (turned_legs L) v q → AreShortcuts n h L v list →
      p * (q - 1) ≤ length list
  near_shortcuts h p q list first second are =
      let r = grid h first.0 second.0 first.1 second.1 first.3 second.3 in
      let some : length r.0 ≤ length list = fewer r.0 list r.1 are.ordered (λ s c. are.whole s (r.2 s c).0) in
      let more = second.2 in
      let others : q - 1 ≤ length second.0 - 1 = omega (arith, more) in
      let product : p * (q - 1) ≤ length first.0 * (length second.0 - 1) =
      mul-le-mul {n₁ = p} {m₁ = q - 1} {n₂ = length first.0} {m₂ = length second.0 - 1} first.2 others in
      omega (arith, r.3, some, product)

-- a neighbour is near if its leg to v and its others are as wanted
pub near_of : (n : ℕ) (M : Legs) (v : ℕ) (leg : Leg) (row : List Leg) → AreLegsFrom M leg.node row → M leg.node v ≡ Some (label_of leg) →
    2 * leg.cost.weight ≤ MOST_WEIGHT → 2 * leg.cost.arcs < n → All (λ (l : Leg). l.node ≢ v → 2 * leg.cost.weight < l.cost.weight) row →
    IsNear n M v leg.node
near_of n M v leg row from leads weight arcs away = record {
  leg = label_of leg;
  leads = leads;
  weight = weight;
  arcs = arcs;
  away = λ y other is ne. let c = row_member row y other (from.1 y ∙ is) in
      subst (λ (l : Leg). l.node ≢ v → 2 * leg.cost.weight < l.cost.weight) c.2 (away c.0 (leg_at y other) c.1) ne;
}

-- a neighbour is a node
pub seen_within : (end : End) (n : ℕ) (L : Legs) (v x : ℕ) (l : Label) → AreLegsWithin n L → seen_from end L x v ≡ Some l → x < n
seen_within End.First n L v x l within is = (within x v l is).ends.0
seen_within End.Second n L v x l within is = (within v x l is).ends.1

-- at least so many of the first i legs to v come from near nodes
pub record IsCounted (n : ℕ) (M : Legs) (v : ℕ) (legs : List Leg) (i count : ℕ) : Type 0 where
  pub nodes : List ℕ
  pub bound : ℕ
  pub edge : IsBoundary legs i bound
  pub ordered : AllPairs ◌<◌ nodes
  pub many : count ≤ length nodes
  pub near : (x : ℕ) → Contains nodes x → IsNear n M v x
  pub below : (x : ℕ) → Contains nodes x → x < bound

-- at first none is counted
pub counted_none : (n : ℕ) (M : Legs) (v : ℕ) (legs : List Leg) → IsCounted n M v legs 0 0
counted_none n M v legs = record {
  nodes = [];
  bound = 0;
  edge = record { before = λ k d lt. absurd (omega arith); after = λ k d le lt. omega arith };
  ordered = λ i j d lt inside. absurd (omega arith);
  many = omega arith;
  near = λ x c. absurd (contains_none x c);
  below = λ x c. absurd (contains_none x c);
}

-- one more leg is counted only if it comes from a near node
pub counted_more : (n : ℕ) (M : Legs) (v : ℕ) (legs : List Leg) (i count more : ℕ) (wanted : Bool) → IsRow legs → i < length legs →
    (IsTrue wanted → IsNear n M v (get_or legs i no_leg).node) → more ≤ (if wanted then count + 1 else count) →
    IsCounted n M v legs i count → IsCounted n M v legs (i + 1) more
counted_more n M v legs i count more false row lt near few c =
    let node : ℕ = (get_or legs i no_leg).node in
    let edge = c.edge.after i no_leg (omega arith) lt in
    let many = c.many in
    record {
      nodes = c.nodes;
      bound = node + 1;
      edge = boundary_next legs i no_leg row lt;
      ordered = c.ordered;
      many = omega (arith, few, many);
      near = c.near;
      below = λ x has. let low = c.below x has in omega (arith, low, edge);
    }
counted_more n M v legs i count more true row lt near few c =
    let node : ℕ = (get_or legs i no_leg).node in
    let edge = c.edge.after i no_leg (omega arith) lt in
    let many = c.many in
    let size = length_push c.nodes node in
    record {
      nodes = c.nodes ++ node ∷ [];
      bound = node + 1;
      edge = boundary_next legs i no_leg row lt;
      ordered = one_more ◌<◌ c.nodes node c.ordered (λ x has. let low = c.below x has in omega (arith, low, edge));
      many = omega (arith, few, many, size);
      near = λ x has. elim (Contains-push_cases c.nodes node x has) [
        | inl old ↦ c.near x old
        | inr e ↦ subst (IsNear n M v) e (near refl)
      ];
      below = λ x has. elim (Contains-push_cases c.nodes node x has) [
        | inl old ↦ let low = c.below x old in omega (arith, low, edge)
        | inr e ↦ omega (arith, e)
      ];
    }
