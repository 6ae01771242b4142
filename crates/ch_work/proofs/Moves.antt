-- Each step keeps the rule.
use Rattle.std.proofs.Common.{◌^◌, ◌≡◌, ◌≢◌, ℕ, suc, ◌+◌, ◌-◌, ◌%◌, ◌<◌, ◌≤◌, ◌==◌, ◌&&◌, nat_lt, min, List, ◌∷◌, length, set, refl}
use Rattle.std.proofs.Common.{sym, ap, ◌∙◌, subst, inl, inr, ⊎_elim, arith, get_or-set_same, get_or-set_other, length-set, add-one}
use Rattle.std.specs.Prelude.{slice_index}
use mathlib.Core.Logic.{dite}
use mathlib.Core.Option.{Option, some, none}
use native.Mathlib.Decide.{dec_lt, ℕ_discrete}
use lib.ListN.{get_elem?}
use Rattle.atomic_table.specs.Table.{step, Act, Valid, stepped, carried_after, Allows, keeps}
use Rattle.atomic_table.proofs.Lists.{at_set}
use Rattle.ch_work.specs.declared.limits.TheConstants.{MOST_OFFER}
use Rattle.ch_work.specs.declared.board.known.Known.{Known}
use Rattle.ch_work.specs.declared.board.known.Size.{Size}
use Rattle.ch_work.specs.Counts.{bit, total, times, times_at}
use Rattle.ch_work.specs.Rule.{none_yet, Fits, Numbers, Cells, AllFit, Holds, Kept}
use Rattle.ch_work.specs.Steps.{with_claim, with_end, with_offer, Knows, Claims, Offers}
use Rattle.ch_work.proofs.Totals.{total_grow, total_push, total_at, total_le, below_next, below_is, pair_same, pair_cases}

-- all views fit after one of them is replaced by a view that fits
pub fits_set : (k : Size) (views : List Known) (i : ℕ) (w : Known) → Fits k w → AllFit k views → AllFit k (set views i w)
fits_set k views i w mine others j u e = ⊎_elim (λ (t : (j ≡ i) × (w ≡ u)). subst (λ (y : Known). Fits k y) t.1 mine)
    (λ (t : (j ≢ i) × (get_elem? views j ≡ some u)). others j u t.1) (at_set views i j w u e)

-- the facts about the counter hold of changed views if the totals of claims, ends and parts are the same
pub numbers_same : (k : Size) (c : ℕ) (views now : List Known) → Numbers k c views
    → total (λ v. v.ended) now ≡ total (λ v. v.ended) views
    → ((x : ℕ) → total (λ v. times x v.claims) now ≡ total (λ v. times x v.claims) views)
    → total (λ v. v.parts) now ≡ total (λ v. v.parts) views
    → Numbers k c now
numbers_same k c views now h e cl p =
    record { counted = h.counted ∙ ap (λ n. min c k.pieces + n) (sym e); claimed = λ x. cl x ∙ h.claimed x; parts = p ∙ h.parts }

-- the facts about the cells hold of changed views if the totals of offers and of shown weights are the same
pub cells_same : (k : Size) (ws : List ℕ) (views now : List Known) → Cells k ws views
    → ((i x : ℕ) → total (λ v. times_at i x v.offers) now ≡ total (λ v. times_at i x v.offers) views)
    → ((i x : ℕ) → total (λ v. times_at i x v.shown) now ≡ total (λ v. times_at i x v.shown) views)
    → Cells k ws now
cells_same k ws views now h o s = record {
  hit = λ i lt less. let e = o i (slice_index ws i) in let q = h.hit i lt less in omega arith;
  low = λ i x some_now. let e = o i x in h.low i x (omega arith);
  small = λ i x some_now. let e = o i x in h.small i x (omega arith);
  shown = λ i x some_now. let e = o i x in let e' = s i x in let q = h.shown i x (omega arith) in omega arith;
}

module _ (k : Size) (c : ℕ) (ws : List ℕ) (views : List Known) (h : Holds k c ws views) (id : ℕ) (v : Known)
    (at : get_elem? views id ≡ some v) where
  -- each number that a pass claimed is below the counter
  pub claims_below : (x : ℕ) → 0 < times x v.claims → x < min c k.pieces
  claims_below x p = let t = total_at (λ (u : Known). times x u.claims) views id v at in let e = h.numbers.claimed x in
      below_is x (min c k.pieces) (omega arith)

  -- claiming a number below the pieces keeps the rule
  pub claims_holds : c < k.pieces → 0 < v.parts → Holds k (c + 1) ws (set views id (with_claim v c))
  claims_holds lt part =
      let w = with_claim v c in
      let m : min c k.pieces ≡ c = omega arith in
      let m' : min (c + 1) k.pieces ≡ c + 1 = omega arith in record {
        room = h.room;
        cells = h.cells;
        numbers = record {
          counted = let e = total_grow (λ (u : Known). u.ended) views id v w 0 at (omega arith) in let n = h.numbers.counted in omega arith;
          claimed = λ x. rw m' (total_grow (λ (u : Known). times x u.claims) views id v w (bit (c == x)) at
              (total_push (λ (y : ℕ). bit (y == x)) v.claims c)
              ∙ ap (λ (n : ℕ). n + bit (c == x)) (h.numbers.claimed x ∙ ap (λ (n : ℕ). bit (nat_lt x n)) m) ∙ below_next x c);
          parts = total_grow (λ (u : Known). u.parts) views id v w 0 at (omega arith) ∙ (let p = h.numbers.parts in omega arith);
        };
        values = cells_same k ws views (set views id w) h.values
            (λ i x. let e = total_grow (λ (u : Known). times_at i x u.offers) views id v w 0 at (omega arith) in omega arith)
            (λ i x. let e = total_grow (λ (u : Known). times_at i x u.shown) views id v w 0 at (omega arith) in omega arith);
        fits = fits_set k views id w (let f = h.fits id v at in
            record { pieces = f.pieces; ended = f.ended; idle = λ z. absurd (omega arith) }) h.fits;
      }

  -- claiming a number past the pieces ends the pass, and keeps the rule
  pub ends_holds : k.pieces ≤ c → v.ended < v.parts → Holds k (c + 1) ws (set views id (with_end v))
  ends_holds le part =
      let w = with_end v in record {
        room = h.room;
        cells = h.cells;
        numbers = record {
          counted = let e = total_grow (λ (u : Known). u.ended) views id v w 1 at refl in let n = h.numbers.counted in omega arith;
          claimed = λ x. let m : min (c + 1) k.pieces ≡ min c k.pieces = omega arith in
              rw m (let e = total_grow (λ (u : Known). times x u.claims) views id v w 0 at (omega arith) in
              let q = h.numbers.claimed x in omega arith);
          parts = let e = total_grow (λ (u : Known). u.parts) views id v w 0 at (omega arith) in let p = h.numbers.parts in omega arith;
        };
        values = cells_same k ws views (set views id w) h.values
            (λ i x. let e = total_grow (λ (u : Known). times_at i x u.offers) views id v w 0 at (omega arith) in omega arith)
            (λ i x. let e = total_grow (λ (u : Known). times_at i x u.shown) views id v w 0 at (omega arith) in omega arith);
        fits = fits_set k views id w (let f = h.fits id v at in
            record { pieces = f.pieces; ended = omega arith; idle = λ z. absurd (omega arith) }) h.fits;
      }

  -- at most all passes have ended
  total_ended_le : total (λ (u : Known). u.ended) views ≤ k.passes
  total_ended_le = let t = total_le (λ (u : Known). u.ended) (λ (u : Known). u.parts) views (λ j u e. (h.fits j u e).ended) in
      let p = h.numbers.parts in omega arith

  -- the counter does not wrap
  pub fits_next : c + 1 < 2 ^ 64
  fits_next = let t = total_ended_le in let n = h.numbers.counted in let r = h.room in omega arith

  -- each weight that a pass knows of a cell is at least the word in the cell
  pub knows_below : (i x : ℕ) → Knows v i x → (slice_index ws i ≤ x) × (x ≤ MOST_OFFER)
  knows_below i x p =
      let o = total_at (λ (u : Known). times_at i x u.offers) views id v at in
      let q = total_at (λ (u : Known). times_at i x u.shown) views id v at in
      let a : ℕ = times_at i x v.offers in
      let b : ℕ = times_at i x v.shown in
      let some_offer : 0 < total (λ (u : Known). times_at i x u.offers) views =
      dite (dec_lt 0 a) (λ (y : 0 < a). let r : 0 < total (λ (u : Known). times_at i x u.offers) views = omega arith in r)
      (λ n. let z : 0 < b = omega arith in h.values.shown i x (omega arith)) in
      (h.values.low i x some_offer, (h.values.small i x some_offer).1)

-- the step of a claim at these words
ClaimsAt : Size → ℕ → ℕ → Known → List (ℕ × Unit {0}) → List (Option (Unit {0})) → List Known → List ℕ → Type 0
ClaimsAt k slots id v c homes views words =
    (w : Known) × (a : Act (Unit {0})) × Valid homes c a
    × Kept k (stepped record { words = words; homes = homes; views = views } 0 ((slice_index words 0 + 1) % 2 ^ 64) id c w a)
    × Claims (step slots 0 1 0 none) (v, c) (slice_index words 0) (w, carried_after c a)

-- a claim of a pass that has not ended is a step that the rule allows
pub claims : (k : Size) (slots id : ℕ) (v : Known) (c : List (ℕ × Unit {0})) → 0 < v.parts → v.ended < v.parts
    → Allows (Kept k) slots id (v, c) 0 (λ n. (n + 1) % 2 ^ 64) (Claims (step slots 0 1 0 none) (v, c))
unfolding ClaimsAt
claims k slots id v c part opn s kept homes at fits =
    let x = kept.counter in
    let ws = kept.values in
    let h = kept.holds in
    let same : v.pieces ≡ k.pieces = (h.fits id v at).pieces part in
    let next = fits_next k x ws s.views h id v at in
    let m : (x + 1) % 2 ^ 64 ≡ x + 1 = omega arith in
    let H : ℕ → List Known → Type 0 = λ n views. Holds k n ws views in
    let here : ClaimsAt k slots id v c s.homes s.views (x ∷ ws) =
    dite (dec_lt x k.pieces)
    (λ lt. (
      with_claim v x,
      keeps,
      tt,
      record {
        counter = (x + 1) % 2 ^ 64;
        values = ws;
        words = refl;
        holds =
            subst (λ (n : ℕ). Holds k n ws (set s.views id (with_claim v x))) (sym m) (claims_holds k x ws s.views h id v at lt part);
      },
      (refl, inl (omega arith, refl, λ y p. let b = claims_below k x ws s.views h id v at y p in omega arith)),
    ))
    (λ ge. (
      with_end v,
      keeps,
      tt,
      record {
        counter = (x + 1) % 2 ^ 64;
        values = ws;
        words = refl;
        holds =
            subst (λ (n : ℕ). Holds k n ws (set s.views id (with_end v))) (sym m) (ends_holds k x ws s.views h id v at (omega arith) opn);
      },
      (refl, inr (omega arith, refl)),
    )) in
    subst (λ (l : List ℕ). ClaimsAt k slots id v c s.homes s.views l) (sym kept.words) here

module _ (ws : List ℕ) (cell : ℕ) (y : ℕ) (inside : cell < length ws) where
  -- the value that was put into a cell is in it
  put_here : slice_index (set ws cell y) cell ≡ y
  put_here = get_or-set_same ws cell y 0 inside

  -- no cell rises when a lesser value is put into one
  put_less : y ≤ slice_index ws cell → (i : ℕ) → slice_index (set ws cell y) i ≤ slice_index ws i
  put_less le i = dite (ℕ_discrete i cell)
      (λ e. let P : ℕ → Type 0 = λ j. slice_index (set ws cell y) j ≤ slice_index ws j in subst P (sym e) (rw put_here le))
      (λ n. let e : slice_index (set ws cell y) i ≡ slice_index ws i = get_or-set_other ws cell i y 0 n in omega arith)

module _ (k : Size) (c : ℕ) (ws : List ℕ) (views : List Known) (h : Holds k c ws views) (id : ℕ) (v : Known)
    (at : get_elem? views id ≡ some v) (cell weight : ℕ) (inside : cell < k.cells) where
  -- the offers of all passes after one more offer
  more_offers : (i x : ℕ) →
      total (λ (u : Known). times_at i x u.offers) (set views id (with_offer v cell weight))
      ≡ total (λ (u : Known). times_at i x u.offers) views + bit ((cell == i) && (weight == x))
  more_offers i x = total_grow (λ (u : Known). times_at i x u.offers) views id v (with_offer v cell weight)
      (bit ((cell == i) && (weight == x))) at (total_push (λ (p : ℕ × ℕ). bit ((p.0 == i) && (p.1 == x))) v.offers (cell, weight))

  -- an offer shows nothing
  same_shown : (i x : ℕ) →
      total (λ (u : Known). times_at i x u.shown) (set views id (with_offer v cell weight))
      ≡ total (λ (u : Known). times_at i x u.shown) views
  same_shown i x =
      let e = total_grow (λ (u : Known). times_at i x u.shown) views id v (with_offer v cell weight) 0 at (omega arith) in omega arith

  module _ (new : ℕ) (is_new : new ≡ min (slice_index ws cell) weight) (bound : weight ≤ MOST_OFFER) where
    -- after an offer, the word of each cell was offered to it
    hit_after : (i : ℕ) → i < k.cells → slice_index (set ws cell new) i < none_yet →
        0 < total (λ (u : Known). times_at i (slice_index (set ws cell new) i) u.offers) (set views id (with_offer v cell weight))
    hit_after i lt less = dite (ℕ_discrete i cell)
        (λ e. let P : ℕ → Type 0 = λ j. 0 < total (λ (u : Known). times_at j (slice_index (set ws cell new) j) u.offers)
        (set views id (with_offer v cell weight)) in
        subst P (sym e) (let Q : ℕ → Type 0 =
        λ z. 0 < total (λ (u : Known). times_at cell z u.offers) (set views id (with_offer v cell weight)) in
        subst Q (sym (put_here ws cell new (rw h.cells inside))) (here (rw (e, put_here ws cell new (rw h.cells inside)) at less))))
        (λ n. let e : slice_index (set ws cell new) i ≡ slice_index ws i = get_or-set_other ws cell i new 0 n in
        let Q : ℕ → Type 0 = λ z. 0 < total (λ (u : Known). times_at i z u.offers) (set views id (with_offer v cell weight)) in
        subst Q (sym e) (let m = more_offers i (slice_index ws i) in let was = h.values.hit i lt (omega arith) in omega arith))
      where
        here : new < none_yet → 0 < total (λ (u : Known). times_at cell new u.offers) (set views id (with_offer v cell weight))
        here less' = dite (dec_lt (slice_index ws cell) weight)
            (λ lt'. let e : new ≡ slice_index ws cell = omega arith in
            let Q : ℕ → Type 0 = λ z. 0 < total (λ (u : Known). times_at cell z u.offers) (set views id (with_offer v cell weight)) in
            subst Q (sym e) (let m = more_offers cell (slice_index ws cell) in let was = h.values.hit cell inside (omega arith) in
            omega arith))
            (λ ge. let e : new ≡ weight = omega arith in
            let Q : ℕ → Type 0 = λ z. 0 < total (λ (u : Known). times_at cell z u.offers) (set views id (with_offer v cell weight)) in
            subst Q (sym e) (let m = more_offers cell weight in let o = pair_same cell weight in omega arith))

    -- after an offer, no lesser weight than a cell's word was offered to it
    low_after : (i x : ℕ) → 0 < total (λ (u : Known). times_at i x u.offers) (set views id (with_offer v cell weight)) →
        (slice_index (set ws cell new) i ≤ x) × (i < k.cells) × (x ≤ MOST_OFFER)
    low_after i x some_now =
        let in_ws : cell < length ws = rw h.cells inside in
        let less = put_less ws cell new in_ws (omega arith) i in
        let m = more_offers i x in
        ⊎_elim
        (λ (t : (cell ≡ i) × (weight ≡ x)). let P : ℕ × ℕ →
        Type 0 = λ z. (slice_index (set ws cell new) z.0 ≤ z.1) × (z.0 < k.cells) × (z.1 ≤ MOST_OFFER) in
        subst P (λ j. (t.0 j, t.1 j)) (rw (put_here ws cell new in_ws) (omega arith), inside, bound))
        (λ (z : bit ((cell == i) && (weight == x)) ≡ 0). let was : 0 < total (λ (u : Known). times_at i x u.offers) views = omega arith in
        let l = h.values.low i x was in let s = h.values.small i x was in (omega arith, s.0, s.1))
        (pair_cases cell weight i x)

    -- an offer keeps the rule
    pub offers_holds : 0 < v.parts → Holds k c (set ws cell new) (set views id (with_offer v cell weight))
    offers_holds part = let w = with_offer v cell weight in record {
      room = h.room;
      cells = length-set ws cell new ∙ h.cells;
      numbers = numbers_same k c views (set views id w) h.numbers
          (let e = total_grow (λ (u : Known). u.ended) views id v w 0 at (omega arith) in omega arith)
          (λ x. let e = total_grow (λ (u : Known). times x u.claims) views id v w 0 at (omega arith) in omega arith)
          (let e = total_grow (λ (u : Known). u.parts) views id v w 0 at (omega arith) in omega arith);
      values = record {
        hit = hit_after;
        low = λ i x p. (low_after i x p).0;
        small = λ i x p. ((low_after i x p).1, (low_after i x p).2);
        shown = λ i x p. let e = same_shown i x in let m = more_offers i x in let was = h.values.shown i x (omega arith) in omega arith;
      };
      fits = fits_set k views id w (let f = h.fits id v at in
          record { pieces = f.pieces; ended = f.ended; idle = λ z. absurd (omega arith) }) h.fits;
    }

-- the step of an offer at these words
OffersAt : Size → ℕ → ℕ → Known → List (ℕ × Unit {0}) → ℕ → ℕ → List (Option (Unit {0})) → List Known → List ℕ → Type 0
OffersAt k slots id v c word weight homes views words =
    (w : Known) × (a : Act (Unit {0})) × Valid homes c a
    × Kept k (stepped record { words = words; homes = homes; views = views } word (min (slice_index words word) weight) id c w a)
    × Offers (step slots word weight 0 none) (v, c) (slice_index words word) (w, carried_after c a)

-- an offer of a pass is a step that the rule allows
pub offers : (k : Size) (slots id : ℕ) (v : Known) (c : List (ℕ × Unit {0})) (cell weight : ℕ) → 0 < v.parts → cell < k.cells →
    weight ≤ MOST_OFFER
    → Allows (Kept k) slots id (v, c) (cell + 1) (λ n. min n weight) (Offers (step slots (cell + 1) weight 0 none) (v, c))
unfolding OffersAt
offers k slots id v c cell weight part inside bound s kept homes at fits =
    let x = kept.counter in
    let ws = kept.values in
    let h = kept.holds in
    let here : OffersAt k slots id v c (suc cell) weight s.homes s.views (x ∷ ws) = (
      with_offer v cell weight,
      keeps,
      tt,
      record {
        counter = x;
        values = set ws cell (min (slice_index ws cell) weight);
        words = refl;
        holds =
            offers_holds k x ws s.views h id v at cell weight inside (min (slice_index ws cell) weight) refl bound part;
      },
      (refl, let e : suc cell - 1 ≡ cell = omega arith in ap (λ (n : ℕ). with_offer v n weight) (sym e)),
    ) in
    subst (λ (l : ℕ × List ℕ). OffersAt k slots id v c l.0 weight s.homes s.views l.1) (λ i. (sym (add-one cell) i, sym kept.words i)) here
