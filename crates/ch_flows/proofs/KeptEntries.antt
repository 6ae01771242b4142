-- Entries of a tree that are kept: those to which no leg back shows a way that costs less.
use Rattle.std.proofs.Common.{◌≡◌, ℕ, ◌+◌, ◌<◌, List, [], ◌∷◌, ◌++◌, length, get_or, Contains, None, inl, inr, sym, ◌∙◌, ap, subst, arith}
use Rattle.std.proofs.lemmas.Bool.{cases_lt}
use Rattle.std.proofs.lemmas.List.{get_or_append_left, get_or_default, get_or_push, length-append}
use Rattle.std.proofs.lemmas.List.Elements.{Contains-append_left, Contains-push}
use Rattle.std.proofs.lemmas.List.Quantifiers.{all_pairs_push}
use Rattle.ch_graph.specs.declared.cost.Cost.{Cost}
use Rattle.ch_graph.specs.Cost.{IsBelow, cost_sum, no_cost}
use Rattle.ch_hierarchy.specs.declared.leg.Leg.{Leg}
use Rattle.ch_hierarchy.specs.Rows.{row}
use Rattle.ch_query.specs.Search.{IsStalled, IsUpwardCost}
use Rattle.ch_query.proofs.one_side.End.{least_reached}
use Rattle.ch_flows.specs.Layouts.{leg_on}
use Rattle.ch_flows.proofs.Parts.{leg_in}
use Rattle.ch_query.specs.Spread.{IsSpread}
use Rattle.ch_flows.specs.Trees.{AreInOrder, AreKept, IsOpenSpread, entry_at}

module _ (rows back : List (List Leg)) (entries : List (ℕ × Cost)) where
  -- the way of an entry that is left out
  abbrev pub IsLeftOut : ℕ → Type 0
  IsLeftOut j = (s : ℕ) → IsSpread rows None s entries → IsStalled rows back s (entry_at entries j).0 (entry_at entries j).1

  -- one more entry is left out
  pub kept_less : (kept : List (ℕ × Cost)) (n : ℕ) → IsLeftOut n → AreKept rows back entries kept n → AreKept rows back entries kept (n + 1)
  kept_less kept n is are = record {
    order = are.order;
    sound = λ k low. (let j = are.sound k low in (j.0, omega (arith, j.1), j.2));
    whole = λ j low. elim (cases_lt j n) [
      | inl less ↦ are.whole j less
      | inr more ↦ (let at : n ≡ j = omega (arith, low, more) in inr (subst IsLeftOut at is))
    ];
  }

  -- one more entry is kept
  pub kept_more : AreInOrder entries → (kept new : List (ℕ × Cost)) (n : ℕ) (entry : ℕ × Cost) → n < length entries →
      entry ≡ entry_at entries n → new ≡ kept ++ entry ∷ [] → AreKept rows back entries kept n → AreKept rows back entries new (n + 1)
  kept_more order kept new n entry low e is are = subst (λ (l : List (ℕ × Cost)). AreKept rows back entries l (n + 1)) (sym is) (record {
    order = all_pairs_push (λ a b. a.0 < b.0) kept entry are.order (λ k d inside.
        let j = are.sound k inside in
        let same : get_or kept k d ≡ entry_at entries j.0 = get_or_default kept k d (0, no_cost) inside ∙ j.2 in
        let rise : (entry_at entries j.0).0 < (entry_at entries n).0 = order j.0 n (0, no_cost) j.1 low in
        omega (arith, rise, ap (λ (p : ℕ × Cost). p.0) same, ap (λ (p : ℕ × Cost). p.0) e));
    sound = λ k inside. elim (cases_lt k (length kept)) [
      | inl less ↦ (
          let j = are.sound k less in
          (j.0, omega (arith, j.1), get_or_append_left kept (entry ∷ []) (0, no_cost) k less ∙ j.2))
      | inr more ↦ (
          let size = length-append kept (entry ∷ []) in
          (n, omega arith, get_or_push kept entry (0, no_cost) k (omega (arith, inside, more, size)) ∙ e))
    ];
    whole = λ j less. elim (cases_lt j n) [
      | inl fewer ↦ elim (are.whole j fewer) [
        | inl has ↦ inl (Contains-append_left kept (entry ∷ []) (entry_at entries j) has)
        | inr out ↦ inr out
      ]
      | inr more ↦ (
          let at : n ≡ j = omega (arith, less, more) in
          inl (subst (λ (p : ℕ × Cost). Contains (kept ++ entry ∷ []) p) (e ∙ ap (entry_at entries) at) (Contains-push kept entry)))
    ];
  })

-- the entries of a spread that are kept
pub open_spread : (rows back : List (List Leg)) (s : ℕ) (entries kept : List (ℕ × Cost)) → IsSpread rows None s entries →
    AreKept rows back entries kept (length entries) → IsOpenSpread rows back s kept
open_spread rows back s entries kept spread are = record {
  order = are.order;
  sound = λ v c has.
      let j = are.sound has.0 has.1 in
      let e : entry_at entries j.0 ≡ (v, c) = sym j.2 ∙ get_or_default kept has.0 (0, no_cost) (v, c) has.1 ∙ has.2 in
      let in_list : Contains entries (v, c) = (j.0, j.1, get_or_default entries j.0 (v, c) (0, no_cost) j.1 ∙ e) in
      (spread.sound v c in_list).0;
  whole = λ v c least.
      let at = spread.whole v c least tt in
      let e : entry_at entries at.0 ≡ (v, c) = get_or_default entries at.0 (0, no_cost) (v, c) at.1 ∙ at.2 in
      elim (are.whole at.0 at.1) [
        | inl has ↦ inl (subst (λ (p : ℕ × Cost). Contains kept p) e has)
        | inr out ↦ inr (subst (λ (p : ℕ × Cost). IsStalled rows back s p.0 p.1) e (out s spread))
      ];
}

-- an entry and a leg back from it to v show a way to v that costs less
pub stalls : (rows back : List (List Leg)) (entries : List (ℕ × Cost)) (v j k : ℕ) (cost : Cost) → k < length (row back v) →
    j < length entries →
    (entry_at entries j).0 ≡ (leg_on (row back v) k).node → IsBelow (cost_sum (entry_at entries j).1 (leg_on (row back v) k).cost) cost →
    (s : ℕ) → IsSpread rows None s entries → IsStalled rows back s v cost
stalls rows back entries v j k cost low inside node below s spread =
    let leg = leg_on (row back v) k in
    let here : Contains entries ((entry_at entries j).0, (entry_at entries j).1) =
    (j, inside, get_or_default entries j (get_or entries j (0, no_cost)) (0, no_cost) inside) in
    let least = (spread.sound (entry_at entries j).0 (entry_at entries j).1 here).0 in
    record {
      leg = leg;
      has = leg_in (row back v) k low;
      cost = (entry_at entries j).1;
      reached = subst (λ (n : ℕ). IsUpwardCost rows s n (entry_at entries j).1) node
          (least_reached rows s (entry_at entries j).0 (entry_at entries j).1 least);
      below = below;
    }
