-- What the nodes of items owe, entry by entry and item by item.
use Rattle.std.proofs.Common.{◌≡◌, ℕ, ◌+◌, ◌*◌, ◌<◌, ◌≤◌, Option, List, [], ◌∷◌, ◌++◌, take, get_or, subst}
use Rattle.std.proofs.Common.{arith, inl, inr}
use Rattle.std.specs.Prelude.{All}
use Rattle.std.proofs.lemmas.Nat.{mul-add-lt}
use Rattle.ch_graph.specs.declared.limits.TheConstants.{MOST_WEIGHT}
use Rattle.ch_graph.proofs.Lists.{contains_none}
use Rattle.std.proofs.lemmas.Bool.{cases_lt}
use Rattle.ch_query.specs.Limits.{IsWithin}
use Rattle.ch_query.proofs.by_weight.MoreEntries.{HasSome, some_cases, some_old, some_new}
use Rattle.ch_rows.specs.Buckets.{IsEntryAmong}
use Rattle.ch_rows.specs.Owed.{BothSides, IsOwedInRow, IsOwedBy, IsOwedAt, IsOwedAmong}
use Rattle.ch_work.specs.declared.board.known.Known.{Known}
use Rattle.ch_work.specs.Owed.{HasPaid}
use Rattle.ch_work.proofs.Payments.{paid_none, paid_then}

-- one weight at one cell, if it is within the limit
abbrev pub OneWithin : Option ℕ → ℕ → ℕ → ℕ → ℕ → Type 0
OneWithin limit cell weight at x = (at ≡ cell) × (x ≡ weight) × IsWithin limit x

-- without entries of targets nothing is owed
pub row_none : (limit : Option ℕ) (first weight : ℕ) (v : Known) → HasPaid (IsOwedInRow limit first weight []) v v
row_none limit first weight v = paid_none (IsOwedInRow limit first weight []) v (λ cell x o. contains_none (o.0, o.1) o.2)

module _ (limit : Option ℕ) (first weight : ℕ) where
  -- the entry of place j and weight b owes x to a cell
  abbrev IsOwedFor : ℕ → ℕ → ℕ → ℕ → Type 0
  IsOwedFor cell x j b = (cell ≡ first + j) × (x ≡ weight + b) × IsWithin limit x

  for_some : (cell x : ℕ) (list : List (ℕ × ℕ)) → IsOwedInRow limit first weight list cell x → HasSome (IsOwedFor cell x) list
  for_some cell x list o = (o.0, o.1, o.2, (o.3, o.4, o.5))

  of_some : (cell x : ℕ) (list : List (ℕ × ℕ)) → HasSome (IsOwedFor cell x) list → IsOwedInRow limit first weight list cell x
  of_some cell x list o = (o.0, o.1, o.2, o.3.0, o.3.1, o.3.2)

  -- one more entry
  pub row_more : (i : ℕ) (targets : List (ℕ × ℕ)) (entry : ℕ × ℕ) → take (i + 1) targets ≡ take i targets ++ entry ∷ [] → (u v w : Known) →
      HasPaid (IsOwedInRow limit first weight (take i targets)) u v → HasPaid (OneWithin limit (first + entry.0) (weight + entry.1)) v w →
      HasPaid (IsOwedInRow limit first weight (take (i + 1) targets)) u w
  row_more i targets entry is u v w =
      let before = take i targets in
      let all = take (i + 1) targets in
      paid_then (IsOwedInRow limit first weight before) (OneWithin limit (first + entry.0) (weight + entry.1))
      (IsOwedInRow limit first weight all) u v w
      (λ cell x o. elim (some_cases (IsOwedFor cell x) all before entry is (for_some cell x all o)) [
        | inl old ↦ inl (of_some cell x before old)
        | inr new ↦ inr new
      ])
      (λ cell x o. of_some cell x all (some_old (IsOwedFor cell x) all before entry is (for_some cell x before o)))
      (λ cell x o. of_some cell x all (some_new (IsOwedFor cell x) all before entry is o))

-- one more entry, and its row
pub item_more : (limit : Option ℕ) (columns i : ℕ) (sources targets : List (ℕ × ℕ)) (entry : ℕ × ℕ) →
    take (i + 1) sources ≡ take i sources ++ entry ∷ [] → (u v w : Known) →
    HasPaid (IsOwedBy limit columns (take i sources) targets) u v → HasPaid (IsOwedInRow limit (entry.0 * columns) entry.1 targets)
    v w → HasPaid (IsOwedBy limit columns (take (i + 1) sources) targets) u w
item_more limit columns i sources targets entry is u v w =
    let Q : ℕ → ℕ → ℕ → ℕ → Type 0 = λ cell x j a. IsOwedInRow limit (j * columns) a targets cell x in
    paid_then (IsOwedBy limit columns (take i sources) targets) (IsOwedInRow limit (entry.0 * columns) entry.1 targets)
    (IsOwedBy limit columns (take (i + 1) sources) targets) u v w
    (λ cell x. some_cases (Q cell x) (take (i + 1) sources) (take i sources) entry is)
    (λ cell x. some_old (Q cell x) (take (i + 1) sources) (take i sources) entry is)
    (λ cell x. some_new (Q cell x) (take (i + 1) sources) (take i sources) entry is)

-- no items owe nothing
pub items_none : (S : BothSides) (from : ℕ) (v : Known) → HasPaid (IsOwedAmong S from from) v v
items_none S from v = paid_none (IsOwedAmong S from from) v (λ cell x o. let a = o.1 in let b = o.2 in omega arith)

-- one more item
pub items_more : (S : BothSides) (from item : ℕ) → from ≤ item → (u v w : Known) → HasPaid (IsOwedAmong S from item) u v →
    HasPaid (IsOwedAt S item) v w → HasPaid (IsOwedAmong S from (item + 1)) u w
items_more S from item low u v w =
    paid_then (IsOwedAmong S from item) (IsOwedAt S item) (IsOwedAmong S from (item + 1)) u v w
    (λ cell x o. elim (cases_lt o.0 item) [
      | inl before ↦ inl (o.0, o.1, before, o.3)
      | inr past ↦ let e : o.0 ≡ item = (let b = o.2 in omega arith) in inr (subst (λ q. IsOwedAt S q cell x) e o.3)
    ])
    (λ cell x o. (o.0, o.1, (let b = o.2 in omega arith), o.3))
    (λ cell x o. (item, low, omega arith, o))

-- the cells of a source's row are cells of the board, and the weights are those of paths
pub row_cells : (S : BothSides) (cells i : ℕ) (targets : List (ℕ × ℕ)) → i < S.rows → cells ≡ S.rows * S.columns →
    All (IsEntryAmong S.columns) targets → All (λ entry. (i * S.columns + entry.0 < cells) × (entry.1 ≤ MOST_WEIGHT)) targets
row_cells S cells i targets lt size all k d within =
    let e = all k d within in
    let fits = mul-add-lt i S.columns (get_or targets k d).0 S.rows lt e.0 in
    (omega (arith, size, fits), e.1)
