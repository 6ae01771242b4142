-- Looks, views that are split off and joined, and what a view of all passes knows.
use Rattle.std.proofs.Common.{◌^◌, ◌≡◌, ◌≢◌, ℕ, suc, ◌+◌, ◌-◌, ◌<◌, ◌==◌, ◌&&◌, nat_lt, min, List, [], ◌∷◌, ◌++◌, set, refl}
use Rattle.std.proofs.Common.{sym, ap, ◌∙◌, subst, inl, inr, ⊎_elim, arith, add-one}
use Rattle.std.specs.Prelude.{slice_index}
use Rattle.std.proofs.lemmas.List.{set-get_or}
use mathlib.Core.Logic.{dite}
use mathlib.Core.Option.{Option, some, none}
use native.Mathlib.Decide.{dec_lt}
use lib.ListN.{get_elem?}
use Rattle.atomic_table.specs.Table.{step, Act, Valid, stepped, carried_after, Allows, Splits, Joins, Enters, keeps}
use Rattle.atomic_table.proofs.Lists.{at_set, at_snoc, set_again}
use Rattle.ch_work.specs.declared.board.known.Known.{Known}
use Rattle.ch_work.specs.declared.board.known.Size.{Size}
use Rattle.ch_work.specs.Counts.{bit, total, times, times_at}
use Rattle.ch_work.specs.Rule.{none_yet, Fits, AllFit, Holds, Kept, IsWhole}
use Rattle.ch_work.specs.Steps.{nothing_known, with_look, Looks, less_one, one_part, both}
use Rattle.ch_work.proofs.Totals.{total_grow, total_append, total_push, total_split, total_join, total_whole, pair_cases, bit_one}
use Rattle.ch_work.proofs.Moves.{fits_set, numbers_same, cells_same, knows_below}

module _ (k : Size) (c : ℕ) (ws : List ℕ) (views : List Known) (h : Holds k c ws views) (id : ℕ) (v : Known)
    (at : get_elem? views id ≡ some v) (cell : ℕ) where
  -- a look keeps the rule
  pub looks_holds : cell < k.cells → slice_index ws cell < none_yet → 0 < v.parts →
      Holds k c ws (set views id (with_look v cell (slice_index ws cell)))
  looks_holds inside less part =
      let x = slice_index ws cell in
      let w = with_look v cell x in
      let o : (i y : ℕ) → total (λ (u : Known). times_at i y u.offers) (set views id w) ≡ total (λ (u : Known). times_at i y u.offers) views
      = λ i y. let e = total_grow (λ (u : Known). times_at i y u.offers) views id v w 0 at (omega arith) in omega arith in
      let s : (i y : ℕ) → total (λ (u : Known). times_at i y u.shown) (set views id w)
      ≡ total (λ (u : Known). times_at i y u.shown) views + bit ((cell == i) && (x == y))
      = λ i y. total_grow (λ (u : Known). times_at i y u.shown) views id v w (bit ((cell == i) && (x == y))) at
      (total_push (λ (p : ℕ × ℕ). bit ((p.0 == i) && (p.1 == y))) v.shown (cell, x)) in record {
        room = h.room;
        cells = h.cells;
        numbers = numbers_same k c views (set views id w) h.numbers
            (let e = total_grow (λ (u : Known). u.ended) views id v w 0 at (omega arith) in omega arith)
            (λ y. let e = total_grow (λ (u : Known). times y u.claims) views id v w 0 at (omega arith) in omega arith)
            (let e = total_grow (λ (u : Known). u.parts) views id v w 0 at (omega arith) in omega arith);
        values = record {
          hit = λ i lt less'. let e = o i (slice_index ws i) in let q = h.values.hit i lt less' in omega arith;
          low = λ i y p. let e = o i y in h.values.low i y (omega arith);
          small = λ i y p. let e = o i y in h.values.small i y (omega arith);
          shown = λ i y p. let e = o i y in let e' = s i y in
              ⊎_elim
              (λ (t : (cell ≡ i) × (x ≡ y)). let q : 0 < total (λ (u : Known). times_at i y u.offers) views
              = (let P : ℕ × ℕ → Type 0 = λ z. 0 < total (λ (u : Known). times_at z.0 z.1 u.offers) views in
              subst P (λ j. (t.0 j, t.1 j)) (h.values.hit cell inside less)) in omega arith)
              (λ (z : bit ((cell == i) && (x == y)) ≡ 0). let q = h.values.shown i y (omega arith) in omega arith)
              (pair_cases cell x i y);
        };
        fits = fits_set k views id w (let f = h.fits id v at in
            record { pieces = f.pieces; ended = f.ended; idle = λ z. absurd (omega arith) }) h.fits;
      }

-- the step of a look at these words
LooksAt : Size → ℕ → ℕ → Known → List (ℕ × Unit {0}) → ℕ → List (Option (Unit {0})) → List Known → List ℕ → Type 0
LooksAt k slots id v c word homes views words =
    (w : Known) × (a : Act (Unit {0})) × Valid homes c a
    × Kept k (stepped record { words = words; homes = homes; views = views } word (slice_index words word) id c w a)
    × Looks (step slots word 0 0 none) (v, c) (slice_index words word) (w, carried_after c a)

-- a look of a pass is a step that the rule allows
pub looks : (k : Size) (slots id : ℕ) (v : Known) (c : List (ℕ × Unit {0})) (cell : ℕ) → 0 < v.parts → cell < k.cells
    → Allows (Kept k) slots id (v, c) (cell + 1) (λ n. n) (Looks (step slots (cell + 1) 0 0 none) (v, c))
unfolding LooksAt
looks k slots id v c cell part inside s kept homes at fits =
    let x = kept.counter in
    let ws = kept.values in
    let h = kept.holds in
    let n = slice_index ws cell in
    let fits' : n < 2 ^ 64 = (let P : ℕ × List ℕ → Type 0 = λ z. slice_index z.1 z.0 < 2 ^ 64 in
    subst P (λ i. (add-one cell i, kept.words i)) fits) in
    let again : set ws cell n ≡ ws = set-get_or ws cell 0 in
    let e : suc cell - 1 ≡ cell = omega arith in
    let here : LooksAt k slots id v c (suc cell) s.homes s.views (x ∷ ws) =
    dite (dec_lt n none_yet)
    (λ less. (
      with_look v cell n,
      keeps,
      tt,
      record {
        counter = x;
        values = set ws cell n;
        words = refl;
        holds =
            subst (λ (l : List ℕ). Holds k x l (set s.views id (with_look v cell n))) (sym again)
            (looks_holds k x ws s.views h id v at cell inside less part);
      },
      (
        refl,
        inl (
          (h.values.small cell n (h.values.hit cell inside less)).1,
          ap (λ (i : ℕ). with_look v i n) (sym e),
          λ y p.
              (knows_below k x ws s.views h id v at cell y (rw e at p)).0,
        ),
      ),
    ))
    (λ more. (
      v,
      keeps,
      tt,
      record {
        counter = x;
        values = set ws cell n;
        words = refl;
        holds = subst (λ (z : List ℕ × List Known). Holds k x z.0 z.1)
            (λ i. (sym again i, sym (set_again s.views id v at) i)) h;
      },
      (refl, inr (omega arith, refl, λ y p. let b = knows_below k x ws s.views h id v at cell y (rw e at p) in omega arith)),
    )) in
    subst (λ (l : ℕ × List ℕ). LooksAt k slots id v c l.0 s.homes s.views l.1) (λ i. (sym (add-one cell) i, sym kept.words i)) here

-- the rule holds of other views with the same totals, if each fits
same_totals : (k : Size) (c : ℕ) (ws : List ℕ) (old now : List Known) → Holds k c ws old →
    total (λ (u : Known). u.ended) now ≡ total (λ (u : Known). u.ended) old →
    ((x : ℕ) → total (λ (u : Known). times x u.claims) now ≡ total (λ (u : Known). times x u.claims) old) →
    total (λ (u : Known). u.parts) now ≡ total (λ (u : Known). u.parts) old →
    ((i x : ℕ) → total (λ (u : Known). times_at i x u.offers) now ≡ total (λ (u : Known). times_at i x u.offers) old) →
    ((i x : ℕ) → total (λ (u : Known). times_at i x u.shown) now ≡ total (λ (u : Known). times_at i x u.shown) old) →
    AllFit k now → Holds k c ws now
same_totals k c ws old now h ended claims parts offers shown fits = record {
  room = h.room;
  cells = h.cells;
  numbers = numbers_same k c old now h.numbers ended claims parts;
  values = cells_same k ws old now h.values offers shown;
  fits = fits;
}

-- splitting off a pass that has done nothing keeps the rule
pub splits : (k : Size) (id p n : ℕ) → 0 < n →
    Splits (Kept k) id (nothing_known p n) (less_one (nothing_known p n)) (one_part (nothing_known p n))
splits k id p n some_part s kept at =
    let h = kept.holds in
    let v = nothing_known p n in
    let l = less_one v in
    let r = one_part v in
    let f = h.fits id v at in
    record {
      counter = kept.counter;
      values = kept.values;
      words = kept.words;
      holds = same_totals k kept.counter kept.values s.views (set s.views id l ++ r ∷ []) h
          (total_split (λ (u : Known). u.ended) s.views id v l r at refl)
          (λ x. total_split (λ (u : Known). times x u.claims) s.views id v l r at refl)
          (total_split (λ (u : Known). u.parts) s.views id v l r at (omega arith))
          (λ i x. total_split (λ (u : Known). times_at i x u.offers) s.views id v l r at refl)
          (λ i x. total_split (λ (u : Known). times_at i x u.shown) s.views id v l r at refl)
          (λ j u e. ⊎_elim
          (λ (there : get_elem? (set s.views id l) j ≡ some u). fits_set k s.views id l record {
            pieces =
                λ q. f.pieces some_part;
            ended = omega arith;
            idle = λ z. (refl, refl, refl);
          } h.fits j u there)
          (λ (t : r ≡ u). subst (λ (y : Known). Fits k y) t
          record { pieces = λ q. f.pieces some_part; ended = omega arith; idle = λ z. (refl, refl, refl) })
          (at_snoc (set s.views id l) r u j e));
    }

-- joining a pass to others keeps the rule
pub joins : (k : Size) (id : ℕ) (v : Known) (other : ℕ) (w : Known) → 0 < w.parts →
    Joins (Kept k) id v other w (both v w) (nothing_known 0 0)
joins k id v other w some_w s kept at apart there =
    let h = kept.holds in
    let b = both v w in
    let z = nothing_known 0 0 in
    let theirs : Fits k w =
    ⊎_elim (λ (t : (other ≡ id) × (b ≡ w)). absurd (apart t.0)) (λ (t : (other ≢ id) × (get_elem? s.views other ≡ some w)).
    h.fits other w t.1) (at_set s.views id other b w there) in
    let mine : Fits k v = h.fits id v at in
    record {
      counter = kept.counter;
      values = kept.values;
      words = kept.words;
      holds = same_totals k kept.counter kept.values s.views (set (set s.views id b) other z) h
          (total_join (λ (u : Known). u.ended) s.views id other v w b z at there refl refl)
          (λ x. total_join (λ (u : Known). times x u.claims) s.views id other v w b z at there
          (total_append (λ (y : ℕ). bit (y == x)) v.claims w.claims) refl)
          (total_join (λ (u : Known). u.parts) s.views id other v w b z at there refl refl)
          (λ i x. total_join (λ (u : Known). times_at i x u.offers) s.views id other v w b z at there
          (total_append (λ (p : ℕ × ℕ). bit ((p.0 == i) && (p.1 == x))) v.offers w.offers) refl)
          (λ i x. total_join (λ (u : Known). times_at i x u.shown) s.views id other v w b z at there
          (total_append (λ (p : ℕ × ℕ). bit ((p.0 == i) && (p.1 == x))) v.shown w.shown) refl)
          (fits_set k (set s.views id b) other z
          record { pieces = λ q. absurd (omega arith); ended = omega arith; idle = λ e. (refl, refl, refl) }
          (fits_set k s.views id b
          (let a = mine.ended in let a' = theirs.ended in
          record { pieces = λ q. theirs.pieces some_w; ended = omega arith; idle = λ e. absurd (omega arith) }) h.fits));
    }

-- making a view that stands for no pass keeps the rule
pub enters : (k : Size) (slots : ℕ) → Enters (Kept k) slots 0 (λ n w. w ≡ nothing_known 0 0)
enters k slots s kept homes fits =
    let h = kept.holds in
    let z = nothing_known 0 0 in (
      z,
      record {
        counter = kept.counter;
        values = kept.values;
        words = kept.words;
        holds = same_totals k kept.counter kept.values s.views (s.views ++ z ∷ []) h
            (let t = total_push (λ (u : Known). u.ended) s.views z in omega arith)
            (λ x. let t = total_push (λ (u : Known). times x u.claims) s.views z in omega arith)
            (let t = total_push (λ (u : Known). u.parts) s.views z in omega arith)
            (λ i x. let t = total_push (λ (u : Known). times_at i x u.offers) s.views z in omega arith)
            (λ i x. let t = total_push (λ (u : Known). times_at i x u.shown) s.views z in omega arith)
            (λ j u e. ⊎_elim (λ (there : get_elem? s.views j ≡ some u). h.fits j u there)
            (λ (t : z ≡ u). subst (λ (y : Known). Fits k y) t
            record { pieces = λ q. absurd (omega arith); ended = omega arith; idle = λ e. (refl, refl, refl) })
            (at_snoc s.views z u j e));
      },
      refl,
    )

-- a view that stands for all passes knows all that was done
pub settles : (k : Size) (c : ℕ) (ws : List ℕ) (views : List Known) → Holds k c ws views → (id : ℕ) (v : Known) →
    get_elem? views id ≡ some v → v.parts ≡ k.passes → IsWhole k v ws
settles k c ws views h id v at all =
    let whole : total (λ (u : Known). u.parts) views ≡ v.parts = h.numbers.parts ∙ sym all in
    let claims : (x : ℕ) → total (λ (u : Known). times x u.claims) views ≡ times x v.claims
    = λ x. total_whole (λ (u : Known). times x u.claims) (λ (u : Known). u.parts) views id v at whole
    (λ j u e z. let n = ((h.fits j u e).idle z).0 in ap (λ (l : List ℕ). times x l) n) in
    let ended : total (λ (u : Known). u.ended) views ≡ v.ended
    = total_whole (λ (u : Known). u.ended) (λ (u : Known). u.parts) views id v at whole
    (λ j u e z. let n = (h.fits j u e).ended in omega arith) in
    let offers : (i x : ℕ) → total (λ (u : Known). times_at i x u.offers) views ≡ times_at i x v.offers
    = λ i x. total_whole (λ (u : Known). times_at i x u.offers) (λ (u : Known). u.parts) views id v at whole
    (λ j u e z. let n = ((h.fits j u e).idle z).1 in ap (λ (l : List (ℕ × ℕ)). times_at i x l) n) in
    let shown : (i x : ℕ) → total (λ (u : Known). times_at i x u.shown) views ≡ times_at i x v.shown
    = λ i x. total_whole (λ (u : Known). times_at i x u.shown) (λ (u : Known). u.parts) views id v at whole
    (λ j u e z. let n = ((h.fits j u e).idle z).2 in ap (λ (l : List (ℕ × ℕ)). times_at i x l) n) in record {
      cells = h.cells;
      once = λ x. let e = claims x in let q = h.numbers.claimed x in let b = bit_one (nat_lt x (min c k.pieces)) in omega arith;
      below = λ x p. let e = claims x in let q = h.numbers.claimed x in
          let b = Rattle.ch_work.proofs.Totals.below_is x (min c k.pieces) (omega arith) in omega arith;
      every = λ some_end x lt. let e = claims x in let q = h.numbers.claimed x in let n = h.numbers.counted in
          let b = Rattle.ch_work.proofs.Totals.below_true x (min c k.pieces) (omega arith) in omega arith;
      hit = λ i lt less. let e = offers i (slice_index ws i) in let q = h.values.hit i lt less in omega arith;
      low = λ i x p. let e = offers i x in h.values.low i x (omega arith);
      small = λ i x p. let e = offers i x in h.values.small i x (omega arith);
      shown = λ i x p. let e = offers i x in let e' = shown i x in let q = h.values.shown i x (omega arith) in omega arith;
    }
