-- Sums of values along legs: those of both halves of a shortcut add up.
use Rattle.std.proofs.Common.{◌≡◌, ◌≢◌, ℕ, zero, suc, ◌+◌, ◌-◌, ◌<◌, List, [], ◌∷◌, ◌++◌, length, map, get_or, Contains, Option, Some, None}
use Rattle.std.proofs.Common.{inl, inr, refl, sym, ◌∙◌, ap, subst, arith}
use Rattle.std.specs.Prelude.{MatchOption, ⊤}
use Rattle.std.proofs.lemmas.Bool.{cases_lt}
use Rattle.std.proofs.lemmas.List.{get_or-append-add, get_or-map, get_or_append_left, get_or_default, length-append, length-map}
use Rattle.std.proofs.lemmas.List.Sums.{sum_by-append, sum_by-cons}
use Rattle.ch_graph.specs.declared.arc.InArc.{InArc}
use Rattle.ch_hierarchy.specs.declared.leg.Leg.{Leg}
use Rattle.ch_hierarchy.specs.declared.ranked.RankedLeg.{RankedLeg}
use Rattle.ch_hierarchy.specs.Hierarchy.{IsLevelled, LevelsAndLegs, nodes_of}
use Rattle.ch_hierarchy.specs.Ranked.{rank_of, ranked_leg}
use Rattle.ch_hierarchy.specs.Rows.{row}
use Rattle.ch_hierarchy.specs.declared.side.Side.{Side}
use Rattle.ch_hierarchy.specs.declared.side.Side.TheVariants.{Up, Down}
use Rattle.ch_hierarchy.specs.Side.{rows_of}
use Rattle.ch_hierarchy.proofs.code.Ranked.{rank_one}
use Rattle.ch_hierarchy.proofs.theory.NoLeg.{no_leg}
use Rattle.ch_query.proofs.one_side.Expanding.{leg_up}
use Rattle.ch_query.specs.Routes.{IsUnpacked, arc, shortcut}
use Rattle.ch_engine.specs.LegSums.{AreLegRows, AreLegWords, AreLinesBetween, IsLegSum, IsRowLegSum, IsSumBetween, leg_on, rank_at}
use Rattle.ch_engine.specs.Lines.{IsLineBy, Lines, node_at}
use Rattle.ch_engine.proofs.SeenLines.{rows_pushed}

-- a leg of a row by its place
pub leg_in : (legs : List Leg) (k : ℕ) → k < length legs → Contains legs (leg_on legs k)
leg_in legs k low = (k, low, get_or_default legs k (get_or legs k no_leg) no_leg low)

-- the leg at the rank of a node is the leg at the node
pub leg_of_rank : (H : LevelsAndLegs) → IsLevelled H → (side : Side) (v w : ℕ) → w < nodes_of H → (ranked : List RankedLeg) →
    ranked ≡ map (ranked_leg H) (row (rows_of H side) v) → (k : ℕ) → k < length ranked → rank_at ranked k ≡ rank_of H w →
    (k < length (row (rows_of H side) v)) × (node_at (row (rows_of H side) v) k ≡ w)
leg_of_rank H levelled side v w low ranked is k inside rank =
    let legs = row (rows_of H side) v in
    let none : RankedLeg = record { rank = 0; arcs = 0; weight = 0 } in
    let size : length ranked ≡ length legs = ap length is ∙ length-map legs (ranked_leg H) in
    let within : k < length legs = omega (arith, inside, size) in
    let same : rank_of H (node_at legs k) ≡ rank_of H w =
    sym (ap (λ (l : List RankedLeg). rank_at l k) is
    ∙ ap (λ (l : RankedLeg). l.rank) (get_or-map (ranked_leg H) legs k no_leg none within)) ∙ rank in
    (within, rank_one H levelled (node_at legs k) w (leg_up H levelled side v (leg_on legs k) (leg_in legs k within)).node low same)

module _ (H : LevelsAndLegs) (lines : Lines) (values : List ℕ) where
  -- the lines of arcs and of those behind them
  lines_joined : (xs ys : List InArc) (ls ms : List ℕ) → AreLinesBetween H lines xs ls → AreLinesBetween H lines ys ms →
      AreLinesBetween H lines (xs ++ ys) (ls ++ ms)
  lines_joined xs ys ls ms p q =
      let size = length-append xs ys in
      let words = length-append ls ms in
      let Is : InArc → ℕ → Type 0 = λ a word. a.from ≢ a.to → IsLineBy H lines a.from a.to word in
      record {
        long = omega (arith, size, words, p.long, q.long);
        each = λ j d low. elim (cases_lt j (length xs)) [
          | inl less ↦ subst (λ (a : InArc). Is a (get_or (ls ++ ms) j 0)) (sym (get_or_append_left xs ys d j less))
              (subst (Is (get_or xs j d)) (sym (get_or_append_left ls ms 0 j (omega (arith, less, p.long)))) (p.each j d less))
          | inr past ↦ (
              let k = j - length xs in
              let at : length xs + k ≡ j = omega (arith, past) in
              let here : length ls + k ≡ j = omega (arith, past, p.long) in
              let arc : get_or (xs ++ ys) j d ≡ get_or ys k d =
              subst (λ (n : ℕ). get_or (xs ++ ys) n d ≡ get_or ys k d) at (get_or-append-add xs ys k d) in
              let word : get_or (ls ++ ms) j 0 ≡ get_or ms k 0 =
              subst (λ (n : ℕ). get_or (ls ++ ms) n 0 ≡ get_or ms k 0) here (get_or-append-add ls ms k 0) in
              subst (λ (a : InArc). Is a (get_or (ls ++ ms) j 0)) (sym arc)
              (subst (Is (get_or ys k d)) (sym word) (q.each k d (omega (arith, low, size, past)))))
        ];
      }

  -- the sum along arcs and along those behind them
  pub sums_joined : (xs ys : List InArc) (a b : ℕ) → IsSumBetween H lines values xs a → IsSumBetween H lines values ys b →
      IsSumBetween H lines values (xs ++ ys) (a + b)
  sums_joined xs ys a b p q =
      let value : ℕ → ℕ = λ line. get_or values line 0 in
      (p.0 ++ q.0, lines_joined xs ys p.0 q.0 p.1 q.1, omega (arith, p.2, q.2, sum_by-append value p.0 q.0))

  -- no arc has no sum
  pub sum_of_none : IsSumBetween H lines values [] 0
  sum_of_none = ([], record { long = refl; each = λ j d low. absurd (omega (arith, low)) }, refl)

  -- the sum of one arc is the value on its line
  sum_of_one : (a : InArc) (line : ℕ) → (a.from ≢ a.to → IsLineBy H lines a.from a.to line) →
      IsSumBetween H lines values (a ∷ []) (get_or values line 0)
  sum_of_one a line is =
      let value : ℕ → ℕ = λ line. get_or values line 0 in (
        line ∷ [],
        record { long = refl; each = at },
        omega (arith, sum_by-cons value line []),
      )
    where
      at : (j : ℕ) (d : InArc) → j < 1 → (get_or (a ∷ []) j d).from ≢ (get_or (a ∷ []) j d).to →
          IsLineBy H lines (get_or (a ∷ []) j d).from (get_or (a ∷ []) j d).to (get_or (line ∷ []) j 0)
      at zero d low = is
      at (suc j) d low = absurd (omega (arith, low))

  -- a leg without a middle has the value on the line between its ends
  pub arc_sum : (u w : ℕ) (leg : Leg) (line : ℕ) → leg.middle ≡ None → IsLineBy H lines u w line →
      IsLegSum H lines values u w leg (get_or values line 0)
  arc_sum u w leg line none is =
      let a : InArc = record { from = u; to = w; weight = leg.cost.weight } in (
        a ∷ [],
        subst (λ (m : Option ℕ). IsUnpacked H u w leg.cost.weight m (a ∷ [])) (sym none) (arc {u = u} {w = w} {weight = leg.cost.weight}),
        sum_of_one a line (λ differ. is),
      )

  -- a leg with a middle has the sum of both legs of the middle
  pub middle_sum : (u w v : ℕ) (leg a b : Leg) (x y : ℕ) → leg.middle ≡ Some v → Contains (row H.down v) a → a.node ≡ u →
      Contains (row H.up v) b → b.node ≡ w → IsRowLegSum Down H lines values v a x → IsRowLegSum Up H lines values v b y →
      IsLegSum H lines values u w leg (x + y)
  middle_sum u w v leg a b x y middle ha na hb nb p q =
      let first : IsLegSum H lines values u v a x = subst (λ (n : ℕ). IsLegSum H lines values n v a x) na p in
      let second : IsLegSum H lines values v w b y = subst (λ (n : ℕ). IsLegSum H lines values v n b y) nb q in (
        first.0 ++ second.0,
        subst (λ (m : Option ℕ). IsUnpacked H u w leg.cost.weight m (first.0 ++ second.0)) (sym middle)
            (shortcut {weight = leg.cost.weight} ha na hb nb first.1 second.1),
        sums_joined first.0 second.0 x y first.2 second.2,
      )

  -- the words of one more node
  pub legs_pushed : (side : Side) (order : List ℕ) (rows new : List (List ℕ)) (made : List ℕ) (n node : ℕ) → length rows ≡ n →
      new ≡ rows ++ made ∷ [] → AreLegRows side H lines values order rows → AreLegWords side H lines values node made →
      node ≡ get_or order n 0 → AreLegRows side H lines values order new
  legs_pushed side order rows new made n node count is are words at =
      subst (AreLegRows side H lines values order) (sym is) (λ i low.
      let P : ℕ → List ℕ → Type 0 = λ k row. AreLegWords side H lines values (get_or order k 0) row in
      rows_pushed P rows made n count (λ k less. are k (omega (arith, less, count)))
      (subst (λ (v : ℕ). AreLegWords side H lines values v made) at words) i
      (omega (arith, low, length-append rows (made ∷ []), count)))

-- of two facts on what is there, the first
pub first_of_both : {T : Type 0} (o : Option T) (P Q : T → Type 0) → MatchOption o ⊤ (λ x. P x × Q x) → MatchOption o ⊤ P
first_of_both None P Q both = tt
first_of_both (Some x) P Q both = both.0
