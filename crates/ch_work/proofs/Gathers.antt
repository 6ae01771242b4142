-- Views that are joined one after the other.
use Rattle.std.proofs.Common.{◌^◌, ◌≡◌, ℕ, zero, suc, ◌+◌, ◌<◌, ◌==◌, ◌&&◌, List, [], ◌∷◌, ◌++◌, map, length, refl, sym, ◌∙◌, subst}
use Rattle.std.proofs.Common.{arith, slice_index_or, Bool, true, false, cond, ◌≢◌, add-one, Option, Some, None, Result, Ok, Err}
use Rattle.std.proofs.Common.{IfOk}
use Rattle.std.specs.Prelude.{slice_index}
use Rattle.std.proofs.lemmas.Bool.Decides.{nat_tests}
use native.Mathlib.Decide.{dec_lt}
use mathlib.Core.Option.{some, some-ne-none, some-injective}
use lib.ListN.{get_elem?}
use Rattle.atomic_table.specs.Table.{Final, Seen}
use Rattle.ch_work.specs.declared.board.known.Known.{Known}
use Rattle.ch_work.specs.declared.board.known.Size.{Size}
use Rattle.ch_work.specs.declared.board.Pass.{Pass}
use Rattle.ch_work.specs.Passes.{view_of}
use Rattle.ch_work.proofs.Ends.{settles}
use Rattle.ch_work.specs.Counts.{bit, total, times, times_at}
use Rattle.ch_work.specs.Rule.{none_yet, Kept, Sums, Settled, IsWhole, IsLeast, IsRead, read_cell}
use Rattle.ch_work.specs.Steps.{both}
use Rattle.ch_work.proofs.Totals.{total_append, total_push}

-- one more view is joined
pub sums_push : (v : Known) (vs : List Known) (w : Known) → Sums v vs → Sums (both v w) (vs ++ w ∷ [])
sums_push v vs w s = record {
  parts = let t = total_push (λ (u : Known). u.parts) vs w in let e = s.parts in omega arith;
  ended = let t = total_push (λ (u : Known). u.ended) vs w in let e = s.ended in omega arith;
  claims = λ x. let t = total_push (λ (u : Known). times x u.claims) vs w in let e = s.claims x in
      let a = total_append (λ (y : ℕ). bit (y == x)) v.claims w.claims in omega arith;
  offers = λ i x. let t = total_push (λ (u : Known). times_at i x u.offers) vs w in let e = s.offers i x in
      let a = total_append (λ (p : ℕ × ℕ). bit ((p.0 == i) && (p.1 == x))) v.offers w.offers in omega arith;
  shown = λ i x. let t = total_push (λ (u : Known). times_at i x u.shown) vs w in let e = s.shown i x in
      let a = total_append (λ (p : ℕ × ℕ). bit ((p.0 == i) && (p.1 == x))) v.shown w.shown in omega arith;
}

-- each pass counts as one
pub parts_count : (ps : List Pass) → total (λ (u : Known). u.parts) (map view_of ps) ≡ length ps
parts_count [] = refl
parts_count (p ∷ ps) = let h = parts_count ps in let one : p.seat.me.0.parts ≡ 1 = p.one_part in omega arith

-- the word of a cell gives the least weight that was offered to it
is_least : (k : Size) (v : Known) (views : List Known) (ws : List ℕ) → Sums v views → IsWhole k v ws → (i : ℕ) → i < k.cells →
    slice_index ws i < 2 ^ 64 → IsLeast views i (read_cell (slice_index ws i))
is_least k v views ws s h i lt fits = go (slice_index ws i == none_yet) refl
  where
    none_here : slice_index ws i ≡ none_yet → (x : ℕ) → Dec (0 < total (λ (u : Known). times_at i x u.offers) views) →
        total (λ (u : Known). times_at i x u.offers) views ≡ 0
    none_here e x (yes p) = let t = s.offers i x in let l = h.low i x (omega arith) in let m = (h.small i x (omega arith)).1 in
        absurd (omega arith)
    none_here e x (no n) = omega arith

    go : (b : Bool) → (slice_index ws i == none_yet) ≡ b → IsLeast views i (cond b None (Some (slice_index ws i)))
    go true e = λ x. none_here (grind (arith, nat_tests)) x (dec_lt 0 (total (λ (u : Known). times_at i x u.offers) views))
    go false e =
        let n : slice_index ws i ≢ none_yet = grind (arith, nat_tests) in
        let a = h.hit i lt (omega arith) in let t = s.offers i (slice_index ws i) in
        (omega arith, λ y p. let t' = s.offers i y in h.low i y (omega arith))

-- what is known of the view of all passes is known of the passes together
pub settled : (k : Size) (v : Known) (views : List Known) (ws : List ℕ) (cells : List (Option ℕ)) → Sums v views → IsWhole k v ws →
    length cells ≡ k.cells
    → ((i : ℕ) (d : Option ℕ) → i < k.cells → IsRead (slice_index ws i) (slice_index_or cells i d)) → Settled k views cells
settled k v views ws cells s h len each = record {
  count = len;
  once = λ x. let t = s.claims x in let o = h.once x in omega arith;
  below = λ x p. let t = s.claims x in h.below x (omega arith);
  every = λ p x lt. let t = s.claims x in let e = s.ended in let a = h.every (omega arith) x lt in omega arith;
  least = λ i d lt. let r = each i d lt in subst (λ (o : Option ℕ). IsLeast views i o) (sym r.0) (is_least k v views ws s h i lt r.1);
  shown = λ i x p. let t = s.shown i x in let t' = s.offers i x in let a = h.shown i x (omega arith) in omega arith;
}

-- what a closed table gives for the view of all passes
pub whole : (k : Size) (id : ℕ) (v : Known) (words : List ℕ) (slots : List (Unit {0})) (ps : List Pass) →
    Final (Seen (Kept k) id v) words slots → Sums v (map view_of ps) → length ps ≡ k.passes
    → (c : ℕ) × (ws : List ℕ) × (words ≡ c ∷ ws) × IsWhole k v ws
whole k id v words slots ps f s len =
    let kept = f.1.0 in
    let n = parts_count ps in
    let p = s.parts in
    (kept.counter, kept.values, sym f.2 ∙ kept.words, settles k kept.counter kept.values f.0.views kept.holds id v f.1.1 (omega arith))

-- what is known of a closed board, from its words
pub settled_words : (k : Size) (id : ℕ) (v : Known) (words : List ℕ) (slots : List (Unit {0})) (ps : List Pass) (cells : List (Option ℕ))
    → Final (Seen (Kept k) id v) words slots → Sums v (map view_of ps) → length ps ≡ k.passes → length cells ≡ k.cells
    → ((i : ℕ) (d : Option ℕ) → i < k.cells → IsRead (slice_index words (i + 1)) (slice_index_or cells i d)) →
    Settled k (map view_of ps) cells
settled_words k id v words slots ps cells f s len count each =
    let w = whole k id v words slots ps f s len in
    settled k v (map view_of ps) w.1 cells s w.3 count
    (λ i d lt. let P : ℕ × List ℕ → Type 0 = λ z. IsRead (slice_index z.1 z.0) (slice_index_or cells i d) in
    subst P (λ j. (add-one i j, w.2 j)) (each i d lt))

-- the word at a place of a list
pub index_is : (l : List ℕ) (i x : ℕ) → get_elem? l i ≡ some x → slice_index l i ≡ x
index_is [] i x e = absurd (some-ne-none x (sym e))
index_is (y ∷ ys) zero x e = some-injective y x e
index_is (y ∷ ys) (suc i) x e = index_is ys i x e

-- the word of a cell without an offer is read as none
pub read_none : (n : ℕ) → n ≡ none_yet → IsRead n None
read_none n e = (rw e refl, omega arith)

-- a word that is a weight is not the word of a cell without an offer
some_of : (n : ℕ) (b : Bool) → (n == none_yet) ≡ b → n ≢ none_yet → Some n ≡ cond b None (Some n)
some_of n true e ne = absurd (ne (grind (arith, nat_tests)))
some_of n false e ne = refl

-- a word that is a weight is read as that weight
pub read_some : (n : ℕ) → n ≢ none_yet → n < 2 ^ 64 → IsRead n (Some n)
read_some n ne fits = (some_of n (n == none_yet) refl ne, fits)

-- two facts about the value of a result imply a third
pub both_ok : {T E : Type 0} (r : Result T E) (P Q R : T → Type 0) → IfOk r P → IfOk r Q → ((v : T) → P v → Q v → R v) → IfOk r R
both_ok (Ok v) P Q R p q f = f v p q
both_ok (Err e) P Q R p q f = tt
