-- The cells of a row and of a table, one after the other in arrays.
use Rattle.std.proofs.Common.{◌≡◌, ℕ, ◌+◌, ◌*◌, ◌<◌, ◌≤◌, List, length, get_or, set, None, inl}
use Rattle.std.proofs.Common.{inr, sym, ◌∙◌, subst, ap, arith}
use Rattle.std.proofs.lemmas.Bool.{cases_lt, cases_order}
use Rattle.std.proofs.lemmas.List.{get_or-set_other, get_or-set_same}
use Rattle.ch_flows.proofs.Cells.{row_ends}
use Rattle.ch_hierarchy.specs.Hierarchy.{LevelsAndLegs}
use Rattle.ch_hierarchy.specs.Paths.{NeverMeets}
use Rattle.ch_hierarchy.proofs.theory.KeptWalks.{meetings_are_distances}
use Rattle.ch_engine.specs.Held.{Held, only}
use Rattle.ch_engine.specs.Lines.{Lines}
use Rattle.ch_engine.specs.Routes.{IsFound}
use Rattle.ch_engine.specs.RouteSums.{IsPairSum}
use Rattle.ch_engine.specs.declared.written.Summed.{Summed}
use Rattle.ch_engine.specs.declared.written.SumsEnd.{SumsEnd}
use Rattle.ch_engine.specs.TableSums.{AreRowSums, AreTableSums, AreTableSumsWritten, IsCellEnd, IsEarly, IsRowEnd, IsTableEnd, IsWhole}

-- if paths never meet, there is no route
pub found_none : (H : LevelsAndLegs) (s t : ℕ) → NeverMeets H s t → IsFound H s t None
found_none H s t never = record {
  chosen = never;
  walk = λ g limits kept. ((meetings_are_distances g H limits kept).never s t).1 never;
  few = omega arith;
}

-- one more cell of a row
pub row_more : (held : Held) (values : List ℕ) (s : ℕ) (targets : List ℕ) (first : ℕ) (weights sums : List ℕ) (n weight sum : ℕ) →
    AreRowSums held values s targets first weights sums n → first + n < length weights → first + n < length sums →
    IsPairSum held values s (get_or targets n 0) weight sum →
    AreRowSums held values s targets first (set weights (first + n) weight) (set sums (first + n) sum) (n + 1)
row_more held values s targets first weights sums n weight sum are weighs inside here c low =
    let At : ℕ → ℕ → ℕ → Type 0 = λ m w x. IsPairSum held values s (get_or targets m 0) w x in
    let new = set weights (first + n) weight in
    let more = set sums (first + n) sum in
    elim (cases_lt c n) [
      | inl less ↦ subst (λ w. At c w (get_or more (first + c) 0))
          (sym (get_or-set_other weights (first + n) (first + c) weight 0 (λ equal. omega (arith, equal, less))))
          (subst (At c (get_or weights (first + c) 0))
          (sym (get_or-set_other sums (first + n) (first + c) sum 0 (λ equal. omega (arith, equal, less)))) (are c less))
      | inr past ↦ (
          let same : n ≡ c = omega (arith, low, past) in
          subst (λ m. At m (get_or new (first + m) 0) (get_or more (first + m) 0)) same
          (subst (λ w. At n w (get_or more (first + n) 0)) (sym (get_or-set_same weights (first + n) weight 0 weighs))
          (subst (At n weight) (sym (get_or-set_same sums (first + n) sum 0 inside)) here)))
    ]

-- the cells of one more row, or of its first cells
pub table_more : (held : Held) (values sources targets weights sums new more : List ℕ) (i first n : ℕ) →
    first ≡ i * length targets → AreTableSums held values sources targets weights sums first →
    ((k : ℕ) → k < first → (get_or new k 0 ≡ get_or weights k 0) × (get_or more k 0 ≡ get_or sums k 0)) →
    AreRowSums held values (get_or sources i 0) targets first new more n → n ≤ length targets →
    AreTableSums held values sources targets new more (first + n)
table_more held values sources targets weights sums new more i first n at are stay row few j c low inside fits =
    let w = length targets in
    let place = j * w + c in
    elim (cases_lt place first) [
      | inl less ↦ (
          let same = stay place less in
          let Is : ℕ → ℕ → Type 0 = λ x y. IsPairSum held values (get_or sources j 0) (get_or targets c 0) x y in
          subst (λ x. Is x (get_or more place 0)) (sym same.0)
          (subst (Is (get_or weights place 0)) (sym same.1) (are j c low inside less)))
      | inr past ↦ (
          let equal : i ≡ j = elim (cases_order j i) [
            | inl is ↦ omega (arith, is)
            | inr (inl lower) ↦ absurd (let end = row_ends j i w lower in omega (arith, end, past, at, inside))
            | inr (inr higher) ↦ absurd (let end = row_ends i j w higher in omega (arith, end, fits, at, few))
          ] in
          let here : first + c ≡ place = at' equal in
          let own : c < n = omega (arith, here, fits) in
          let Is : ℕ → ℕ → Type 0 =
          λ r p. IsPairSum held values (get_or sources r 0) (get_or targets c 0) (get_or new p 0) (get_or more p 0) in
          subst (λ r. Is r place) equal (subst (Is i) here (row c own)))
    ]
  where
    at' : i ≡ j → first + c ≡ j * length targets + c
    at' equal = ap (λ (x : ℕ). x + c) (at ∙ ap (λ (x : ℕ). x * length targets) equal)

-- a cell that was not written is where its row ends
pub row_ends_at : (held : Held) (values : List ℕ) (s : ℕ) (targets : List ℕ) (n : ℕ) (end : SumsEnd) → n < length targets →
    IsCellEnd held values s (get_or targets n 0) end → IsRowEnd held values s targets n end
row_ends_at held values s targets n SumsEnd.All low is = absurd is
row_ends_at held values s targets n SumsEnd.TooLarge low is = (low, is)
row_ends_at held values s targets n SumsEnd.NoMemory low is = omega (arith, low)

-- a row that was not written whole is where the table ends
pub table_ends_at : (held : Held) (values sources targets : List ℕ) (i first n : ℕ) (end : SumsEnd) → IsEarly end →
    i < length sources → first ≡ i * length targets → IsRowEnd held values (get_or sources i 0) targets n end →
    IsTableEnd held values sources targets (first + n) end
table_ends_at held values sources targets i first n SumsEnd.All some low at is = absurd some
table_ends_at held values sources targets i first n SumsEnd.TooLarge some low at is =
    (i, n, low, is.0, ap (λ (x : ℕ). x + n) at, is.1)
table_ends_at held values sources targets i first n SumsEnd.NoMemory some low at is =
    let end = row_ends i (length sources) (length targets) low in omega (arith, end, at, is)

-- before the first row there is no cell
pub table_none : (held : Held) (values sources targets weights sums : List ℕ) → AreTableSums held values sources targets weights sums 0
table_none held values sources targets weights sums i c low inside few = absurd (omega (arith, few))

-- the table ends by what the hierarchy and the lines of an engine say, and its places say nothing
pub end_of_network : (held : Held) (values sources targets : List ℕ) (n : ℕ) (end : SumsEnd) →
    IsTableEnd (only held.hierarchy held.lines) values sources targets n end → IsTableEnd held values sources targets n end
end_of_network held values sources targets n SumsEnd.All is = is
end_of_network held values sources targets n SumsEnd.TooLarge is = is
end_of_network held values sources targets n SumsEnd.NoMemory is = is

-- a row ends within its cells
pub row_few : (held : Held) (values : List ℕ) (s : ℕ) (targets : List ℕ) (n : ℕ) (end : SumsEnd) → IsRowEnd held values s targets n end →
    n ≤ length targets
row_few held values s targets n SumsEnd.All is = omega (arith, is)
row_few held values s targets n SumsEnd.TooLarge is = omega (arith, is.0)
row_few held values s targets n SumsEnd.NoMemory is = is

-- a row that was written whole has all its cells
pub row_whole : (held : Held) (values : List ℕ) (s : ℕ) (targets : List ℕ) (n : ℕ) (end : SumsEnd) → IsWhole end →
    IsRowEnd held values s targets n end → n ≡ length targets
row_whole held values s targets n SumsEnd.All whole is = is
row_whole held values s targets n SumsEnd.TooLarge whole is = absurd whole
row_whole held values s targets n SumsEnd.NoMemory whole is = absurd whole

-- what is written, by its number of cells and the reason for its end
pub written_at : (held : Held) (values sources targets weights sums : List ℕ) (n : ℕ) (end : SumsEnd) (summed : Summed) → summed.count ≡ n →
    summed.end ≡ end → AreTableSums held values sources targets weights sums n → IsTableEnd held values sources targets n end →
    AreTableSumsWritten held sources targets values weights sums summed
written_at held values sources targets weights sums n end summed counts ends cells is = (
  subst (AreTableSums held values sources targets weights sums) (sym counts) cells,
  subst (λ (e : SumsEnd). IsTableEnd held values sources targets summed.count e) (sym ends)
      (subst (λ (m : ℕ). IsTableEnd held values sources targets m end) (sym counts) is),
)

-- what is written for a network and for kept values is so for an engine with this network, and for the same values
pub written_by : (held : Held) (network : LevelsAndLegs × Lines) (sources targets values kept weights sums : List ℕ) (summed : Summed) →
    network ≡ (held.hierarchy, held.lines) → kept ≡ values →
    AreTableSumsWritten (only network.0 network.1) sources targets kept weights sums summed →
    AreTableSumsWritten held sources targets values weights sums summed
written_by held network sources targets values kept weights sums summed same equal are =
    let own = subst (λ (v : List ℕ). AreTableSumsWritten (only held.hierarchy held.lines) sources targets v weights sums summed) equal
    (subst (λ (n : LevelsAndLegs × Lines). AreTableSumsWritten (only n.0 n.1) sources targets kept weights sums summed) same are) in
    (own.0, end_of_network held values sources targets summed.count summed.end own.1)
