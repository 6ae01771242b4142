-- The rows of the pairs of lists hold the lists, in order of place.
use Rattle.std.proofs.Common.{ℕ, ◌<◌, ◌≤◌, ◌^◌, List, [], length, map, Vec, sym, subst, arith}
use Rattle.std.specs.Prelude.{All, AllPairs, slice_index_or}
use Rattle.std.specs.declared.alloc.Global.{Global}
use Rattle.std.proofs.lemmas.List.Elements.{All-map}
use Rattle.std.proofs.lemmas.Result.{IfOk-weaker}
use Rattle.ch_graph.specs.Rows.{AreRowsOf, pairs_of}
use Rattle.ch_rows.specs.Buckets.{AreRanksApart, HoldLists}
use Rattle.ch_rows.proofs.Held.{hold_lists, rows_rise}
use Rattle.ch_rows.proofs.spaces.gathered.Goals as goal

abbrev items : Vec (ℕ × ℕ) Global → List (ℕ × ℕ)
items list = list.items

pub gather-requires-clause-places : goal.gather-requires-clause-places
gather-requires-clause-places c =
    subst (λ (l : List (Vec (ℕ × ℕ) Global)). length l ≤ 2 ^ 32) (sym c.deref.ensures.value) (omega (arith, c.requires.listed))

pub gather-requires-clause-keys : goal.gather-requires-clause-keys
gather-requires-clause-keys c =
    subst (All (λ (list : Vec (ℕ × ℕ) Global). All (λ (entry : ℕ × ℕ). entry.0 < c.args.nodes) list.items)) (sym c.deref.ensures.value)
    c.requires.ranks

pub returns-clause-held : goal.returns-clause-held
returns-clause-held c =
    let n = c.args.nodes in
    let vecs = c.args.lists.items in
    let below = All-map (All (λ (entry : ℕ × ℕ). entry.0 < n)) items vecs c.requires.ranks in
    IfOk-weaker c.gather.result _ (HoldLists n (λ rank. rank) (map items vecs))
    (λ rows made. hold_lists n (map items vecs) below rows
    (subst (λ (l : List (Vec (ℕ × ℕ) Global)). AreRowsOf n (pairs_of (map items l)) rows) c.deref.ensures.value made)) c.gather.ensures

pub returns-clause-order : goal.returns-clause-order
returns-clause-order c apart =
    let n = c.args.nodes in
    let vecs = c.args.lists.items in
    IfOk-weaker c.gather.result _ (λ rows. (rank : ℕ) → AllPairs (λ a b. a.0 < b.0) (slice_index_or rows rank []))
    (λ rows made. rows_rise n (map items vecs) (All-map AreRanksApart items vecs apart) rows
    (subst (λ (l : List (Vec (ℕ × ℕ) Global)). AreRowsOf n (pairs_of (map items l)) rows) c.deref.ensures.value made)) c.gather.ensures
