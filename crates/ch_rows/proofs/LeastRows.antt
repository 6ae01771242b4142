-- The row that the least offers make, once it is put in order and cut. A pair that is not offered has enough offers
-- before it.
use Rattle.std.proofs.Common.{◌≡◌, ℕ, ◌+◌, ◌<◌, ◌≤◌, ◌⊎◌, List, length, map, Contains, Option, Some, get_or, sym, ◌∙◌, ap, subst}
use Rattle.std.proofs.Common.{arith, inl, inr}
use Rattle.std.specs.Prelude.{◌≢◌, AllPairs, slice_index}
use Rattle.std.proofs.lemmas.Bool.{cases_lt}
use Rattle.std.proofs.lemmas.List.{length-map}
use Rattle.std.proofs.lemmas.List.Elements.{Contains-get_or}
use Rattle.std.proofs.lemmas.List.Sorted.{Contains-permutation, IsPermutation-sym}
use Rattle.ch_graph.proofs.Lists.{contains_map_of, pairs_map}
use Rattle.ch_rows.specs.declared.offers.TheConstants.{UNOFFERED}
use Rattle.ch_rows.specs.First.{IsNearer, AreFullOfNearer, AreFirst, IsSortedAndCut}
use Rattle.ch_rows.specs.Offers.{AreUnoffered, AreOffered, AreTaken}
use Rattle.ch_rows.proofs.Orders.{nearer_in_order, apart_in_order, nearer_never}
use Rattle.ch_rows.proofs.Firsts.{IsBeaten, first_of}

-- as many other places as are asked for have offers that come before e
pub record IsOutdone (count : Option ℕ) (S : ℕ × ℕ → Type 0) (e : ℕ × ℕ) : Type 0 where
  pub places : List ℕ
  pub enough : count ≡ Some (length places)
  pub distinct : AllPairs ◌≢◌ places
  pub nearer : (j : ℕ) → Contains places j → (x : ℕ) × S (x, j) × IsNearer (x, j) e

-- pairs in order have different places, if each place has only one weight
pub places_apart : (D : ℕ × ℕ → Type 0) (list : List (ℕ × ℕ)) → AllPairs IsNearer list → ((f : ℕ × ℕ) → Contains list f → D f) →
    ((x y j : ℕ) → D (x, j) → D (y, j) → x ≡ y) → AllPairs (λ a b. a.1 ≢ b.1) list
places_apart D list order all one i k d less within same =
    let near = order i k d less within in
    let a = get_or list i d in
    let b = get_or list k d in
    let first = all a (Contains-get_or list i d (omega arith)) in
    let second = all b (Contains-get_or list k d within) in
    let alike = one a.0 b.0 b.1 (subst (λ q. D (a.0, q)) same first) second in
    let is : a ≡ b = λ q. (alike q, same q) in
    nearer_never b (subst (λ q. IsNearer q b) is near)

-- a pair that a full list leaves out is outdone, even if a weight is added to all pairs
pub outdone_by : (count : Option ℕ) (S : ℕ × ℕ → Type 0) (list : List (ℕ × ℕ)) (weight x j : ℕ) → AllPairs (λ a b. a.1 ≢ b.1) list →
    AreFullOfNearer count list (x, j) →
    ((f : ℕ × ℕ) → Contains list f → weight + f.0 ≤ weight + x → S (weight + f.0, f.1)) → IsOutdone count S (weight + x, j)
outdone_by count S list weight x j apart full sums = record {
  places = map (λ (e : ℕ × ℕ). e.1) list;
  enough = full.0 ∙ ap Some (sym (length-map list (λ (e : ℕ × ℕ). e.1)));
  distinct = pairs_map (λ (e : ℕ × ℕ). e.1) ◌≢◌ list apart;
  nearer = λ i h.
      let r = contains_map_of (λ (e : ℕ × ℕ). e.1) list i h in
      let f = r.0 in
      let k = r.1.0 in
      let near = subst (λ q. IsNearer q (x, j)) (r.1.2) (full.1 k f r.1.1) in
      (weight + f.0, subst (λ q. S (weight + f.0, q)) r.2 (sums f r.1 (weighs f near)), nearer_still f near i r.2);
}
  where
    weighs : (f : ℕ × ℕ) → IsNearer f (x, j) → weight + f.0 ≤ weight + x
    weighs f (inl lt) = omega arith
    weighs f (inr both) = let e = both.0 in omega arith

    nearer_still : (f : ℕ × ℕ) → IsNearer f (x, j) → (i : ℕ) → f.1 ≡ i → IsNearer (weight + f.0, i) (weight + x, j)
    nearer_still f (inl lt) i is = inl (omega arith)
    nearer_still f (inr both) i is = let e = both.0 in let low = both.1 in inr (omega arith, omega arith)

-- offers to places, and the least offer of each, moved into a row that is put in order and cut
module _ (places : ℕ) (count : Option ℕ) (S D : ℕ × ℕ → Type 0) (among : (e : ℕ × ℕ) → S e → (e.1 < places) × (e.0 < UNOFFERED))
    (one : (x y j : ℕ) → D (x, j) → D (y, j) → x ≡ y) (below : (e : ℕ × ℕ) → S e → (x : ℕ) × D (x, e.1) × (x ≤ e.0))
    (reached : (e : ℕ × ℕ) → D e → S e ⊎ IsOutdone count S e)
    (fresh least : List ℕ) (row result : List (ℕ × ℕ)) (none : AreUnoffered places fresh) (offered : AreOffered S fresh least)
    (taken : AreTaken least row) (cut : IsSortedAndCut count row result) where
  abbrev xs : List (ℕ × ℕ)
  xs = cut.sorted

  -- each pair of the row is an offer
  listed : (e : ℕ × ℕ) → Contains xs e → S e
  listed e c =
      let r = taken.sound e (Contains-permutation xs row e (IsPermutation-sym row xs cut.permutation) c) in
      let size = offered.size in
      let size' = none.size in
      let low = r.0 in
      elim (offered.sound e.1 (omega arith)) [
        | inl same ↦ absurd (r.2 (sym r.1 ∙ same ∙ none.each e.1 (omega arith)))
        | inr offer ↦ subst (λ q. S (q, e.1)) r.1 offer
      ]

  -- for each offer, the row has a pair of its place with no greater weight
  unlisted : (e : ℕ × ℕ) → S e → (x : ℕ) × (x ≤ e.0) × Contains xs (x, e.1)
  unlisted e offer =
      let le = offered.whole e.1 e.0 offer in
      let r = among e offer in
      let low = r.0 in
      let most = r.1 in
      let size = offered.size in
      let size' = none.size in
      let some : slice_index least e.1 ≢ UNOFFERED = λ q. omega arith in (
        slice_index least e.1,
        le,
        Contains-permutation row xs (slice_index least e.1, e.1) cut.permutation (taken.whole e.1 (omega arith) some),
      )

  -- a pair that is outdone by offers is beaten in the row
  outdone_beaten : (e : ℕ × ℕ) → IsOutdone count S e → IsBeaten count xs e
  outdone_beaten e out = record {
    places = out.places;
    enough = out.enough;
    distinct = out.distinct;
    nearer = λ j h.
        let r = out.nearer j h in
        let found = unlisted (r.0, j) r.1 in
        (found.0, found.2, no_farther found.0 r.0 j found.1 r.2);
  }
    where
      no_farther : (y x j : ℕ) → y ≤ x → IsNearer (x, j) e → IsNearer (y, j) e
      no_farther y x j le (inl lt) = inl (omega arith)
      no_farther y x j le (inr both) = elim (cases_lt y e.0) [
        | inl less ↦ inl less
        | inr past ↦ let is = both.0 in let low = both.1 in inr (omega arith, omega arith)
      ]

  pub row_of_offers : AreFirst count D result
  row_of_offers = subst (AreFirst count D) (sym cut.cut)
      (first_of xs (nearer_in_order row xs taken.apart cut.permutation cut.order) count D
      (apart_in_order row xs taken.apart cut.permutation) one
      (λ e c. below e (listed e c))
      (λ e d. elim (reached e d) [
        | inl offer ↦ inl (unlisted e offer)
        | inr out ↦ inr (outdone_beaten e out)
      ]))
