-- Workers that pay what their pieces owe, and the cells at the end.
use Rattle.std.proofs.Common.{◌≡◌, ℕ, suc, ◌+◌, ◌-◌, ◌<◌, ◌≤◌, ◌==◌, List, [], ◌∷◌, length, ap, ◌∙◌, subst, arith}
use Rattle.std.proofs.Common.{⊎_elim, All, map, slice_index_or, Option, Some, None}
use Rattle.std.proofs.lemmas.Bool.Decides.{nat_tests}
use mathlib.Core.Logic.{dite}
use native.Mathlib.Decide.{dec_lt}
use Rattle.ch_work.specs.declared.board.known.Known.{Known}
use Rattle.ch_work.specs.declared.board.known.Size.{Size}
use Rattle.ch_work.specs.declared.board.Board.{Board}
use Rattle.ch_work.specs.declared.board.Pass.{Pass}
use Rattle.ch_work.specs.Counts.{bit, total, times, times_at}
use Rattle.ch_work.specs.Owed.{HasOffered, OffersOwed, Covers, owed_by, Paying, IsLeastOwed, HasPaidOff}
use Rattle.ch_work.specs.Passes.{view_of}
use Rattle.ch_work.specs.Pieces.{pieces_of}
use Rattle.ch_work.specs.Rule.{Settled, IsLeast}
use Rattle.ch_work.specs.Steps.{with_claim}
use Rattle.ch_work.proofs.Claims.{some_ended}
use Rattle.ch_work.proofs.Totals.{total_push, one_same}

-- numbers that count as equal are equal
same_of_bit : (a b : ℕ) → 0 < bit (a == b) → a ≡ b
same_of_bit a b h = grind (arith, nat_tests)

module _ (owes : ℕ → ℕ → ℕ → ℕ → Type 0) (n p : ℕ) where
  -- one more claim, after its piece has paid what it owes
  pub pays_on : (v u w : Known) (next k : ℕ) → Paying owes n p v next → k < pieces_of n p → u ≡ with_claim v k →
      OffersOwed (owed_by owes n p k) u w → Covers (owed_by owes n p k) w → Paying owes n p w (k + 1)
  pays_on v u w next k h lt e offers covers =
      let o : OffersOwed (owed_by owes n p k) (with_claim v k) w = subst (λ (z : Known). OffersOwed (owed_by owes n p k) z w) e offers in
      let t : (j : ℕ) → times j w.claims ≡ times j v.claims + bit (k == j) =
      λ j. ap (λ (l : List ℕ). times j l) o.claims ∙ total_push (λ (y : ℕ). bit (y == j)) v.claims k in record {
        pieces = o.pieces ∙ h.pieces;
        next_in = omega arith;
        last = λ q. let s : k + 1 - 1 ≡ k = omega arith in let a = t k in let b = one_same k in rw s (omega arith);
        pays = record {
          owed = λ i x q. ⊎_elim
              (λ (was : HasOffered v i x). let a = h.pays.owed i x was in (a.0, (let b = t a.0 in let d = a.1 in omega arith), a.2))
              (λ (now : owed_by owes n p k i x). (k, (let a = t k in let b = one_same k in omega arith), now))
              (o.offers i x q);
          covers = λ j q. dite (dec_lt 0 (times j v.claims))
              (λ was i x m. let a = h.pays.covers j was i x m in (a.0, o.knows i a.0 a.1, a.2))
              (λ no. let a = t j in let s = same_of_bit k j (omega arith) in subst (λ (z : ℕ). Covers (owed_by owes n p z) w) s covers);
        };
      }

-- if f is positive in total, f is positive at one of the passes
some_pass : (P : Pass → Type 0) (f : Known → ℕ) (passes : List Pass) → All P passes → 0 < total f (map view_of passes) →
    (pass : Pass) × P pass × (0 < f (view_of pass)) × ((g : Known → ℕ) → g (view_of pass) ≤ total g (map view_of passes))
some_pass P f [] all some_one = absurd (omega arith)
some_pass P f (q ∷ qs) all some_one = dite (dec_lt 0 (f (view_of q)))
    (λ here. (q, all 0 q (omega arith), here, λ g. omega arith))
    (λ no. let r = some_pass P f qs (λ k d lt. all (suc k) d (omega arith)) (omega arith) in
    (r.0, r.1, r.2, λ g. let l = r.3 g in omega arith))

module _ (owes : ℕ → ℕ → ℕ → ℕ → Type 0) (n p : ℕ) (board : Board) (k : Size) (passes : List Pass) (cells : List (Option ℕ))
    (s : Settled k (map view_of passes) cells) (count : k.pieces ≡ pieces_of n p)
    (all : All (HasPaidOff owes n p board) passes) (some_one : 0 < length passes) where
  -- for each weight that a piece owes, a weight that is no greater was offered
  covered : (j i x : ℕ) → j < pieces_of n p → owed_by owes n p j i x →
      (y : ℕ) × (0 < total (λ (v : Known). times_at i y v.offers) (map view_of passes)) × (y ≤ x)
  covered j i x lt owed =
      let ended = some_ended passes (λ m d within. (all m d within).1) some_one in
      let one = s.every ended j (omega arith) in
      let r = some_pass (HasPaidOff owes n p board) (λ (v : Known). times j v.claims) passes all (omega arith) in
      let c = r.1.2.covers j r.2 i x owed in
      let o = r.3 (λ (v : Known). times_at i c.0 v.offers) in
      let w = r.3 (λ (v : Known). times_at i c.0 v.shown) in
      let knows = c.1 in
      (c.0, dite (dec_lt 0 (times_at i c.0 (view_of r.0).offers)) (λ a. omega arith) (λ a. s.shown i c.0 (omega arith)), c.2)

  -- the least offer is the least weight that is owed
  least_owed : (i : ℕ) (o : Option ℕ) → IsLeast (map view_of passes) i o → IsLeastOwed owes n p i o
  least_owed i None h = λ j x lt owed. let c = covered j i x lt owed in let z = h c.0 in let a = c.1 in omega arith
  least_owed i (Some x) h = (
    (let r = some_pass (HasPaidOff owes n p board) (λ (v : Known). times_at i x v.offers) passes all h.0 in
        let w = r.1.2.owed i x r.2 in
        let l = r.3 (λ (v : Known). times w.0 v.claims) in
        let b = s.below w.0 (let a = w.1 in omega arith) in
        (w.0, omega arith, w.2)),
    (λ j y lt owed. let c = covered j i y lt owed in let m = h.1 c.0 c.1 in let a = c.2 in omega arith),
  )

  -- the closed cells have the least weights that are owed to them
  pub paid : (i : ℕ) (d : Option ℕ) → i < k.cells → IsLeastOwed owes n p i (slice_index_or cells i d)
  paid i d lt = least_owed i (slice_index_or cells i d) (s.least i d lt)
