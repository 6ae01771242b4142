-- Words of places, lowered sum by sum.
use Rattle.std.proofs.Common.{◌≡◌, ℕ, ◌+◌, ◌<◌, ◌≤◌, ◌⊎◌, min, List, [], ◌∷◌, ◌++◌, length, Option, take, get_or, set, refl, sym}
use Rattle.std.proofs.Common.{◌∙◌, ap, subst, arith, inl, inr, length-set, get_or-set_same, get_or-set_other}
use Rattle.std.specs.Prelude.{All, slice_index_or}
use Rattle.std.proofs.lemmas.Bool.{cases_eq, cases_lt}
use Rattle.std.proofs.lemmas.List.Elements.{Contains-get_or}
use Rattle.ch_graph.specs.declared.limits.TheConstants.{MOST_WEIGHT}
use Rattle.ch_graph.proofs.Lists.{contains_none}
use Rattle.ch_hierarchy.specs.Hierarchy.{LevelsAndLegs, nodes_of, IsLevelled}
use Rattle.ch_hierarchy.specs.declared.side.Side.{Side}
use Rattle.ch_hierarchy.proofs.code.Ranked.{rank_below}
use Rattle.ch_query.specs.Lowered.{AreLowered, IsSumOver}
use Rattle.ch_query.specs.SearchSpace.{IsRankedSpace}
use Rattle.ch_query.proofs.by_weight.MoreEntries.{some_cases, some_old, some_new}

-- without sums nothing is lowered
pub lowered_none : (P : ℕ → ℕ → Type 0) (row : List ℕ) → ((j x : ℕ) → P j x → ⊥) → AreLowered P row row
lowered_none P row none = record { size = refl; lower = λ j. omega arith; sound = λ j lt. inl refl; whole = λ j x p. absurd (none j x p) }

-- one weight at one place
abbrev pub IsOne : ℕ → ℕ → ℕ → ℕ → Type 0
IsOne place weight j x = (j ≡ place) × (x ≡ weight)

-- one weight lowers one place, if it is less
pub lowered_one : (place weight : ℕ) (row : List ℕ) → place < length row →
    AreLowered (IsOne place weight) row (set row place (min (get_or row place 0) weight))
lowered_one place weight row lt =
    let low = min (get_or row place 0) weight in
    let here = get_or-set_same row place low 0 lt in
    record {
      size = length-set row place low;
      lower = λ j. elim (cases_eq j place) [
        | inl same ↦ subst (λ q. get_or (set row place low) q 0 ≤ get_or row q 0) (sym same) (omega (arith, here))
        | inr other ↦ let still = get_or-set_other row place j low 0 other in omega arith
      ];
      sound = λ j within. elim (cases_eq j place) [
        | inl same ↦ elim (either (get_or row place 0) weight) [
          | inl old ↦ inl (ap (λ q. get_or (set row place low) q 0) same ∙ here ∙ old ∙ ap (λ q. get_or row q 0) (sym same))
          | inr new ↦ inr (same, ap (λ q. get_or (set row place low) q 0) same ∙ here ∙ new)
        ]
        | inr other ↦ inl (get_or-set_other row place j low 0 other)
      ];
      whole = λ j x one.
          let at : get_or (set row place low) j 0 ≡ low = ap (λ q. get_or (set row place low) q 0) one.0 ∙ here in
          let is = one.1 in omega arith;
    }
  where
    either : (a b : ℕ) → (min a b ≡ a) ⊎ (min a b ≡ b)
    either a b = elim (cases_lt b a) [ inl lt ↦ inr (omega arith) | inr le ↦ inl (omega arith) ]

-- lowering by P and then by Q is lowering by both
pub lowered_then : (P Q R : ℕ → ℕ → Type 0) (a b c : List ℕ) → ((j x : ℕ) → P j x → R j x) → ((j x : ℕ) → Q j x → R j x) →
    ((j x : ℕ) → R j x → P j x ⊎ Q j x) →
    AreLowered P a b → AreLowered Q b c → AreLowered R a c
lowered_then P Q R a b c first second parts h k = record {
  size = k.size ∙ h.size;
  lower = λ j. let low = h.lower j in let low' = k.lower j in omega arith;
  sound = λ j lt.
      let size = h.size in
      elim (k.sound j (omega arith)) [
        | inl same ↦ elim (h.sound j lt) [
          | inl old ↦ inl (same ∙ old)
          | inr new ↦ inr (subst (R j) (sym same) (first j (get_or b j 0) new))
        ]
        | inr new ↦ inr (second j (get_or c j 0) new)
      ];
  whole = λ j x r. elim (parts j x r) [
    | inl p ↦ let low = h.whole j x p in let low' = k.lower j in omega arith
    | inr q ↦ k.whole j x q
  ];
}

-- the same sums lower alike
pub lowered_alike : (P Q : ℕ → ℕ → Type 0) (a b : List ℕ) → ((j x : ℕ) → P j x → Q j x) → ((j x : ℕ) → Q j x → P j x) →
    AreLowered P a b → AreLowered Q a b
lowered_alike P Q a b to from h = record {
  size = h.size;
  lower = h.lower;
  sound = λ j lt. elim (h.sound j lt) [ inl same ↦ inl same | inr new ↦ inr (to j (get_or b j 0) new) ];
  whole = λ j x q. h.whole j x (from j x q);
}

module _ {E : Type 0} (P : ℕ → List E → ℕ → ℕ → Type 0) (buckets : List (List E)) where
  -- a search space without entries lowers nothing
  pub space_none : (row : List ℕ) → AreLowered (IsSumOver P [] buckets) row row
  space_none row = lowered_none (IsSumOver P [] buckets) row (λ j x sum. contains_none (sum.0, sum.1) sum.2)

  -- one more entry of the space, and the bucket of its rank
  pub space_more : (i : ℕ) (space : List (ℕ × ℕ)) (entry : ℕ × ℕ) → take (i + 1) space ≡ take i space ++ entry ∷ [] → (a b c : List ℕ) →
      AreLowered (IsSumOver P (take i space) buckets) a b → AreLowered (P entry.1 (slice_index_or buckets entry.0 [])) b c →
      AreLowered (IsSumOver P (take (i + 1) space) buckets) a c
  space_more i space entry is a b c =
      let Q : ℕ → ℕ → ℕ → ℕ → Type 0 = λ j x rank weight. P weight (slice_index_or buckets rank []) j x in
      lowered_then (IsSumOver P (take i space) buckets) (P entry.1 (slice_index_or buckets entry.0 []))
      (IsSumOver P (take (i + 1) space) buckets) a b c
      (λ j x. some_old (Q j x) (take (i + 1) space) (take i space) entry is)
      (λ j x. some_new (Q j x) (take (i + 1) space) (take i space) entry is)
      (λ j x. some_cases (Q j x) (take (i + 1) space) (take i space) entry is)

-- the entries of a search space have ranks of nodes and weights of paths
pub space_among : (H : LevelsAndLegs) → IsLevelled H → (side : Side) (limit : Option ℕ) (s : ℕ) (space : List (ℕ × ℕ)) →
    IsRankedSpace H side limit s space → All (λ entry. (entry.0 < nodes_of H) × (entry.1 ≤ MOST_WEIGHT)) space
space_among H levelled side limit s space is k d lt =
    let e = get_or space k d in
    let node = is.sound e.0 e.1 (Contains-get_or space k d lt) in
    let weight = node.3.1.weight in
    let same = node.3.2 in
    (subst (λ q. q < nodes_of H) node.2 (rank_below H levelled node.0 node.1), omega arith)
