-- Each node has a list of its shortcuts.
use Rattle.std.proofs.Common.{◌≡◌, ℕ, zero, suc, ◌<◌, ◌≤◌, List, [], ◌∷◌, ◌++◌, Option, Some, None, Contains, refl, sym, ◌∙◌, ap}
use Rattle.std.proofs.Common.{subst, arith, inl, inr}
use Rattle.std.specs.Prelude.{◌⊎◌, ◌≢◌, AllPairs}
use Rattle.std.proofs.lemmas.Bool.{cases_eq, cases_lt}
use Rattle.std.proofs.lemmas.Option.{same_Some, none-some}
use Rattle.std.proofs.lemmas.List.Elements.{Contains-append_left, Contains-push, Contains-push_cases, Contains-append_right}
use Rattle.std.proofs.lemmas.List.Elements.{Contains-append_cases}
use Rattle.ch_graph.specs.declared.limits.TheConstants.{MOST_WEIGHT}
use Rattle.ch_graph.specs.declared.cost.Cost.{Cost}
use Rattle.ch_graph.specs.Cost.{cost_sum}
use Rattle.ch_graph.proofs.Lists.{contains_none, pairs_append}
use Rattle.ch_contract.specs.declared.shortcut.Shortcut.{Shortcut}
use Rattle.ch_contract.specs.Legs.{Label, Legs, HasWitness, AreLegsWithin}
use Rattle.ch_contract.specs.Contraction.{AreShortcuts, IsPairBefore}
use Rattle.ch_contract.specs.Legs.{LeadsWithin}
use Rattle.ch_contract.specs.ShortcutLists.{IsShortcutAmong, AreShortcutsAmong}
use Rattle.ch_contract.proofs.theory.WitnessSearch.{witness_or_none}
use Rattle.ch_contract.proofs.theory.Contracting.{pair_of_shortcut}
use Rattle.ch_contract.proofs.theory.Listing.{one_more}

-- whether a pair of numbers has a shortcut with P is decided
abbrev IsDecided : (Shortcut → Type 0) → ℕ → ℕ → Type 0
IsDecided P u w = ((s : Shortcut) × (s.from ≡ u) × (s.to ≡ w) × P s) ⊎ ((s : Shortcut) → s.from ≡ u → s.to ≡ w → P s → ⊥)

module _ (P : Shortcut → Type 0) (n : ℕ) (one : (s t : Shortcut) → s.from ≡ t.from → s.to ≡ t.to → P s → P t → s ≡ t)
    (within : (s : Shortcut) → P s → (s.from < n) × (s.to < n)) (decide : (u w : ℕ) → IsDecided P u w) where
  -- the list has the shortcuts with P from u to a number below m, in order
  record IsLine (u m : ℕ) (list : List Shortcut) : Type 0 where
    ordered : AllPairs IsPairBefore list
    sound : (s : Shortcut) → Contains list s → P s × (s.from ≡ u) × (s.to < m)
    whole : (s : Shortcut) → P s → s.from ≡ u → s.to < m → Contains list s

  -- there is such a list
  line : (u m : ℕ) → (list : List Shortcut) × IsLine u m list
  line u zero = (
    [],
    record {
      ordered = λ i j d lt inside. absurd (omega arith);
      sound = λ s c. absurd (contains_none s c);
      whole =
          λ s p e lt. absurd (omega arith);
    },
  )
  line u (suc m) = at (decide u m) (line u m)
    where
      at : IsDecided P u m → (list : List Shortcut) × IsLine u m list → (list : List Shortcut) × IsLine u (suc m) list
      at (inl s) r = (
        r.0 ++ s.0 ∷ [],
        record {
          ordered = one_more IsPairBefore r.0 s.0 r.1.ordered (λ t c. let is = r.1.sound t c in let from = is.1 in let to = is.2 in
              let its_from = s.1 in let its_to = s.2 in (omega arith, λ back. omega arith));
          sound = λ t c. elim (Contains-push_cases r.0 s.0 t c) [
            | inl old ↦ let is = r.1.sound t old in (is.0, is.1, omega (arith, is.2))
            | inr e ↦ subst (λ (z : Shortcut). P z × (z.from ≡ u) × (z.to < suc m)) e (s.3, s.1, omega (arith, s.2))
          ];
          whole = λ t p e lt. elim (cases_eq t.to m) [
            | inl same ↦ subst (Contains (r.0 ++ s.0 ∷ [])) (one s.0 t (s.1 ∙ sym e) (s.2 ∙ sym same) s.3 p) (Contains-push r.0 s.0)
            | inr ne ↦ Contains-append_left r.0 (s.0 ∷ []) t (r.1.whole t p e (omega arith))
          ];
        },
      )
      at (inr none) r = (
        r.0,
        record {
          ordered = r.1.ordered;
          sound = λ t c. let is = r.1.sound t c in (is.0, is.1, omega (arith, is.2));
          whole = λ t p e lt. elim (cases_eq t.to m) [
            | inl same ↦ absurd (none t e same p)
            | inr ne ↦ r.1.whole t p e (omega arith)
          ];
        },
      )

  -- the list has the shortcuts with P from a number below m, in order
  record IsGrid (m : ℕ) (list : List Shortcut) : Type 0 where
    ordered : AllPairs IsPairBefore list
    sound : (s : Shortcut) → Contains list s → P s × (s.from < m)
    whole : (s : Shortcut) → P s → s.from < m → Contains list s

  -- there is such a list too
  grid : (m : ℕ) → (list : List Shortcut) × IsGrid m list
  grid zero = (
    [],
    record {
      ordered = λ i j d lt inside. absurd (omega arith);
      sound = λ s c. absurd (contains_none s c);
      whole =
          λ s p lt. absurd (omega arith);
    },
  )
  grid (suc m) =
      let r = grid m in
      let l = line m n in (
        r.0 ++ l.0,
        record {
          ordered = pairs_append IsPairBefore r.0 l.0 r.1.ordered l.1.ordered (λ s t c d. let low = (r.1.sound s c).1 in
              let here = (l.1.sound t d).1 in (omega arith, λ back. absurd (omega arith)));
          sound = λ s c. elim (Contains-append_cases r.0 l.0 s c) [
            | inl old ↦ let is = r.1.sound s old in (is.0, omega (arith, is.1))
            | inr new ↦ let is = l.1.sound s new in (is.0, omega (arith, is.1))
          ];
          whole = λ s p lt. elim (cases_eq s.from m) [
            | inl same ↦ Contains-append_right r.0 l.0 s (l.1.whole s p same (within s p).1)
            | inr ne ↦ Contains-append_left r.0 l.0 s (r.1.whole s p (omega arith))
          ];
        },
      )

  -- there is a list of all shortcuts with P, in order
  pub all_listed : (list : List Shortcut) × AllPairs IsPairBefore list × ((s : Shortcut) → Contains list s → P s)
      × ((s : Shortcut) → P s → Contains list s)
  all_listed = let r = grid n in (r.0, r.1.ordered, (λ s c. (r.1.sound s c).0), λ s p. r.1.whole s p (within s p).0)

module _ (n h : ℕ) (L W : Legs) (v : ℕ) (limits : AreLegsWithin n L) (leads : LeadsWithin n W) where
  -- a pair of nodes has one shortcut
  one_shortcut : (s t : Shortcut) → s.from ≡ t.from → s.to ≡ t.to → IsShortcutAmong n h L W v s → IsShortcutAmong n h L W v t → s ≡ t
  one_shortcut s t from to p q =
      let a = p.pair.legs in
      let b = q.pair.legs in
      let first = same_Some a.0 b.0 (sym a.2 ∙ ap (λ z. L z v) from ∙ b.2) in
      let second = same_Some a.1 b.1 (sym a.3 ∙ ap (L v) to ∙ b.3) in
      let cost = a.4 ∙ (λ i. cost_sum (first i).cost (second i).cost) ∙ sym b.4 in
      λ i. record { from = from i; to = to i; cost = cost i }

  -- whether two nodes have a shortcut is decided
  decided : (u w : ℕ) → IsDecided (IsShortcutAmong n h L W v) u w
  decided u w = first (L u v) refl
    where
      both : (a b : Label) → L u v ≡ Some a → L v w ≡ Some b → (s : Shortcut) → s.from ≡ u → s.to ≡ w → IsShortcutAmong n h L W v s →
          s.cost ≡ cost_sum a.cost b.cost
      both a b ea eb s from to is =
          let legs = is.pair.legs in
          let one = same_Some legs.0 a (sym legs.2 ∙ ap (λ z. L z v) from ∙ ea) in
          let two = same_Some legs.1 b (sym legs.3 ∙ ap (L v) to ∙ eb) in
          legs.4 ∙ (λ i. cost_sum (one i).cost (two i).cost)

      last : (a b : Label) → L u v ≡ Some a → L v w ≡ Some b → u ≢ w → (cost_sum a.cost b.cost).weight ≤ MOST_WEIGHT →
          (cost_sum a.cost b.cost).arcs < n → IsDecided (IsShortcutAmong n h L W v) u w
      last a b ea eb ne weight arcs = elim (witness_or_none n W v u w (cost_sum a.cost b.cost) h ne (limits u v a ea).ends.2 leads) [
        | inl witness ↦ inr (λ s from to is.
            let cost = both a b ea eb s from to is in
            is.needed (subst (λ c. HasWitness W v s.from s.to c h) (sym cost)
            (subst (λ z. HasWitness W v z s.to (cost_sum a.cost b.cost) h) (sym from)
            (subst (λ z. HasWitness W v u z (cost_sum a.cost b.cost) h) (sym to) witness))))
        | inr none ↦ inl (
          record { from = u; to = w; cost = cost_sum a.cost b.cost },
          refl,
          refl,
          record {
            pair =
                record { apart = ne; legs = (a, b, ea, eb, refl); weight = weight; arcs = arcs };
            needed = none;
          },
        )
      ]

      light : (a b : Label) → L u v ≡ Some a → L v w ≡ Some b → u ≢ w → IsDecided (IsShortcutAmong n h L W v) u w
      light a b ea eb ne = elim (cases_lt MOST_WEIGHT (cost_sum a.cost b.cost).weight) [
        | inl heavy ↦ inr (λ s from to is. let same = ap (λ (c : Cost). c.weight) (both a b ea eb s from to is) in
            let low = is.pair.weight in omega arith)
        | inr weight ↦ elim (cases_lt (cost_sum a.cost b.cost).arcs n) [
          | inl arcs ↦ last a b ea eb ne weight arcs
          | inr long ↦ inr (λ s from to is. let same = ap (λ (c : Cost). c.arcs) (both a b ea eb s from to is) in
              let low = is.pair.arcs in omega arith)
        ]
      ]

      second : (a : Label) (o : Option Label) → L u v ≡ Some a → L v w ≡ o → IsDecided (IsShortcutAmong n h L W v) u w
      second a None ea e = inr (λ s from to is. let legs = is.pair.legs in none-some legs.1 (sym e ∙ ap (L v) (sym to) ∙ legs.3))
      second a (Some b) ea e = elim (cases_eq u w) [
        | inl same ↦ inr (λ s from to is. is.pair.apart (from ∙ same ∙ sym to))
        | inr ne ↦ light a b ea e ne
      ]

      first : (o : Option Label) → L u v ≡ o → IsDecided (IsShortcutAmong n h L W v) u w
      first None e = inr (λ s from to is. let legs = is.pair.legs in none-some legs.0 (sym e ∙ ap (λ z. L z v) (sym from) ∙ legs.2))
      first (Some a) e = second a (L v w) e refl

  -- there is a list of all shortcuts of v
  pub shortcuts_among : (list : List Shortcut) × AreShortcutsAmong n h L W v list
  shortcuts_among =
      let r = all_listed (IsShortcutAmong n h L W v) n one_shortcut (λ s is. let legs = is.pair.legs in
      ((limits s.from v legs.0 legs.2).ends.0, (limits v s.to legs.1 legs.3).ends.1)) decided in
      (r.0, record { ordered = r.1; sound = r.2; whole = r.3 })

-- there is a list of the shortcuts of a node, with witnesses among the same legs
pub shortcuts_listed : (n h : ℕ) (L : Legs) (v : ℕ) → AreLegsWithin n L → LeadsWithin n L →
    (list : List Shortcut) × AreShortcuts n h L v list
shortcuts_listed n h L v limits leads =
    let r = shortcuts_among n h L L v limits leads in (
      r.0,
      record {
        ordered = r.1.ordered;
        sound = λ s c. let is = r.1.sound s c in
            record { apart = is.pair.apart; legs = is.pair.legs; weight = is.pair.weight; arcs = is.pair.arcs; needed = is.needed };
        whole = λ s is. r.1.whole s (record { pair = pair_of_shortcut n h L v s is; needed = is.needed });
      },
    )
