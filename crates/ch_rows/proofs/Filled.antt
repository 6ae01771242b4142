-- Buckets of the first entries: rows that hold lists, each put in order and cut.
use Rattle.std.proofs.Common.{◌≡◌, ℕ, ◌+◌, ◌<◌, List, [], ◌∷◌, ◌++◌, length, map, Contains, Option, sym, ◌∙◌, ap, subst, arith, inl, inr}
use Rattle.std.specs.Prelude.{◌≢◌, AllPairs, slice_index_or}
use Rattle.std.proofs.lemmas.Bool.{cases_lt}
use Rattle.std.proofs.lemmas.List.{length_push, get_or_push, get_or_append_left}
use Rattle.std.proofs.lemmas.List.Sorted.{Contains-permutation, IsPermutation-sym}
use Rattle.ch_graph.proofs.Lists.{contains_map, contains_map_of, pairs_map}
use Rattle.ch_rows.specs.First.{AreFirst, IsSortedAndCut}
use Rattle.ch_rows.specs.Buckets.{turned, IsEntryAt, AreSortedAndCut, HoldLists, HoldFirst}
use Rattle.ch_rows.proofs.Orders.{apart_in_order, nearer_in_order, place_once}
use Rattle.ch_rows.proofs.Firsts.{first_of}

module _ (n : ℕ) (lists rows : List (List (ℕ × ℕ))) (hold : HoldLists n (λ rank. rank) lists rows)
    (order : (rank : ℕ) → AllPairs (λ a b. a.0 < b.0) (slice_index_or rows rank [])) (count : Option ℕ)
    (firsts : List (List (ℕ × ℕ))) (cut : AreSortedAndCut count rows firsts) where
  -- the entries of a rank, each as a weight and a place
  abbrev at_rank : ℕ → List (ℕ × ℕ)
  at_rank rank = map turned (slice_index_or rows rank [])

  -- these are the entries of the lists at that rank
  in_row : (rank : ℕ) (e : ℕ × ℕ) → Contains (at_rank rank) e → IsEntryAt lists rank e
  in_row rank e c =
      let t = contains_map_of turned (slice_index_or rows rank []) e c in
      let h = hold.sound rank t.0.0 t.0.1 t.1 in
      subst (IsEntryAt lists rank) t.2 (h.0, subst (λ r. Contains (slice_index_or lists t.0.0 []) (r, t.0.1)) h.3 h.2)

  of_row : (rank : ℕ) (e : ℕ × ℕ) → IsEntryAt lists rank e → Contains (at_rank rank) e
  of_row rank e at = contains_map turned (slice_index_or rows rank []) (e.1, e.0) (hold.whole rank e.1 e.0 at.0 at.1)

  bucket : (rank : ℕ) → rank < n → AreFirst count (IsEntryAt lists rank) (slice_index_or firsts rank [])
  bucket rank lt =
      let size = hold.count in
      let row = at_rank rank in
      let s = cut.each rank (omega arith) in
      let p = s.permutation in
      let different = pairs_map turned (λ a b. a.1 ≢ b.1) (slice_index_or rows rank [])
      (λ i j d low within same. let less = order rank i j d low within in omega arith) in
      let nearer = nearer_in_order row s.sorted different p s.order in
      let different' = apart_in_order row s.sorted different p in
      let listed : (e : ℕ × ℕ) → Contains s.sorted e → IsEntryAt lists rank e = λ e c.
      in_row rank e (Contains-permutation s.sorted row e (IsPermutation-sym row s.sorted p) c) in
      let kept : (e : ℕ × ℕ) → IsEntryAt lists rank e → Contains s.sorted e = λ e at.
      Contains-permutation row s.sorted e p (of_row rank e at) in
      subst (AreFirst count (IsEntryAt lists rank)) (sym s.cut)
      (first_of s.sorted nearer count (IsEntryAt lists rank) different'
      (λ x y j a b. place_once s.sorted different' x y j (kept (x, j) a) (kept (y, j) b))
      (λ e c. (e.0, listed e c, omega arith))
      (λ e at. inl (e.0, omega arith, kept e at)))

  pub hold_first : HoldFirst n count lists firsts
  hold_first = record { size = cut.size ∙ hold.count; each = bucket }

-- row k is put in order of weight and place, and cut
abbrev pub IsCut : Option ℕ → List (List (ℕ × ℕ)) → List (List (ℕ × ℕ)) → ℕ → Type 0
IsCut count rows firsts k = IsSortedAndCut count (map turned (slice_index_or rows k [])) (slice_index_or firsts k [])

-- one more row is put in order and cut
pub cut_more : (count : Option ℕ) (rows firsts firsts' : List (List (ℕ × ℕ))) (i : ℕ) (row cut : List (ℕ × ℕ)) → length firsts ≡ i →
    ((k : ℕ) → k < i → IsCut count rows firsts k) → row ≡ map turned (slice_index_or rows i []) → IsSortedAndCut count row cut →
    firsts' ≡ firsts ++ cut ∷ [] → (length firsts' ≡ i + 1) × ((k : ℕ) → k < i + 1 → IsCut count rows firsts' k)
cut_more count rows firsts firsts' i row cut size each is new pushed = (
  ap length pushed ∙ length_push firsts cut ∙ ap (λ q. q + 1) size,
  λ k lt. subst (λ l. IsCut count rows l k) (sym pushed) (elim (cases_lt k i) [
    | inl before ↦ subst (IsSortedAndCut count (map turned (slice_index_or rows k [])))
        (sym (get_or_append_left firsts (cut ∷ []) [] k (omega arith))) (each k before)
    | inr now ↦
        let same : i ≡ k = omega arith in
        subst (IsCut count rows (firsts ++ cut ∷ [])) same
        (subst (IsSortedAndCut count (map turned (slice_index_or rows i []))) (sym (get_or_push firsts cut [] i size))
        (subst (λ l. IsSortedAndCut count l cut) is new))
  ]),
)
