-- One weight that is paid, and payments one after another.
use Rattle.std.proofs.Common.{◌≡◌, ◌⊎◌, ℕ, ◌+◌, ◌≤◌, ◌==◌, ◌&&◌, List, [], ◌∷◌, ◌++◌, refl, sym, ap, ◌∙◌, subst, arith, ⊎_elim, inl}
use Rattle.std.proofs.Common.{inr, Option, Some, None, IfSome, IfNone}
use Rattle.ch_work.specs.declared.limits.TheConstants.{MOST_OFFER}
use Rattle.ch_work.specs.declared.board.known.Known.{Known}
use Rattle.ch_work.specs.Counts.{bit, times_at}
use Rattle.ch_work.specs.Owed.{HasOffered, Covers, HasPaid}
use Rattle.ch_work.specs.Steps.{with_offer, with_look, Knows}
use Rattle.ch_work.proofs.Totals.{total_push, pair_same, pair_cases}

-- how often a pair occurs after one more is appended
more : (ps : List (ℕ × ℕ)) (c x i y : ℕ) → times_at i y (ps ++ (c, x) ∷ []) ≡ times_at i y ps + bit ((c == i) && (x == y))
more ps c x i y = total_push (λ (p : ℕ × ℕ). bit ((p.0 == i) && (p.1 == y))) ps (c, x)

-- one weight is owed to one cell
abbrev pub One : ℕ → ℕ → ℕ → ℕ → Type 0
One cell weight i x = (i ≡ cell) × (x ≡ weight)

-- a known weight that is no greater covers it
covers_one : (w : Known) (cell weight y : ℕ) → Knows w cell y → y ≤ weight → Covers (One cell weight) w
covers_one w cell weight y k le i x owed =
    let P : ℕ × ℕ → Type 0 = λ z. (a : ℕ) × Knows w z.0 a × (a ≤ z.1) in
    subst P (λ j. (sym owed.0 j, sym owed.1 j)) (y, k, le)

-- the weight is paid if a look shows one that is no greater
pub seen_less : (v : Known) (cell weight x : ℕ) → x ≤ weight → HasPaid (One cell weight) v (with_look v cell x)
seen_less v cell weight x le = (
  record {
    pieces = refl;
    ended = refl;
    claims = refl;
    knows = λ i y k. let m = more v.shown cell x i y in omega arith;
    offers = λ i y p. inl p;
  },
  covers_one (with_look v cell x) cell weight x (let m = more v.shown cell x cell x in let o = pair_same cell x in omega arith) le,
)

-- from v to u only a look may have happened
abbrev Shows : Known → Known → Type 0
Shows v u =
    (u.pieces ≡ v.pieces) × (u.ended ≡ v.ended) × (u.claims ≡ v.claims) × (u.offers ≡ v.offers) × ((i x : ℕ) → Knows v i x → Knows u i x)

-- this holds after a look, for each result of the look
pub after_look : (v u : Known) (cell : ℕ) (P : ℕ → Type 0) (Q : Type 0) (o : Option ℕ) →
    IfSome o (λ x. (x ≤ MOST_OFFER) × (u ≡ with_look v cell x) × P x) → IfNone o ((u ≡ v) × Q) → Shows v u
after_look v u cell P Q None some none = subst (Shows v) (sym none.0) (refl, refl, refl, refl, λ i x k. k)
after_look v u cell P Q (Some x) some none =
    subst (Shows v) (sym some.1) (refl, refl, refl, refl, λ i y k. let m = more v.shown cell x i y in omega arith)

-- the weight is paid by an offer
pub offers_it : (v u : Known) (cell weight : ℕ) → Shows v u → HasPaid (One cell weight) v (with_offer u cell weight)
offers_it v u cell weight shows = (
  record {
    pieces = shows.0;
    ended = shows.1;
    claims = shows.2;
    knows = λ i y k. let m = more u.offers cell weight i y in let q = shows.4 i y k in omega arith;
    offers = λ i y p.
        let m = more u.offers cell weight i y in
        let e : times_at i y u.offers ≡ times_at i y v.offers = ap (λ (l : List (ℕ × ℕ)). times_at i y l) shows.3 in
        ⊎_elim
        (λ (t : (cell ≡ i) × (weight ≡ y)). inr (sym t.0, sym t.1))
        (λ (z : bit ((cell == i) && (weight == y)) ≡ 0). inl (omega arith))
        (pair_cases cell weight i y);
  },
  covers_one (with_offer u cell weight) cell weight weight
      (let m = more u.offers cell weight cell weight in let o = pair_same cell weight in omega arith) (omega arith),
)

-- if nothing is owed, nothing has to be paid
pub paid_none : (owed : ℕ → ℕ → Type 0) (v : Known) → ((i x : ℕ) → owed i x → ⊥) → HasPaid owed v v
paid_none owed v none = (
  record { pieces = refl; ended = refl; claims = refl; knows = λ i x k. k; offers = λ i x p. inl p },
  λ i x o. absurd (none i x o),
)

-- two payments one after another pay what either owes
pub paid_then : (P Q R : ℕ → ℕ → Type 0) (u v w : Known) → ((i x : ℕ) → R i x → P i x ⊎ Q i x) → ((i x : ℕ) → P i x → R i x) →
    ((i x : ℕ) → Q i x → R i x) →
    HasPaid P u v → HasPaid Q v w → HasPaid R u w
paid_then P Q R u v w split first second h k = (
  record {
    pieces = k.0.pieces ∙ h.0.pieces;
    ended = k.0.ended ∙ h.0.ended;
    claims = k.0.claims ∙ h.0.claims;
    knows = λ i x a. k.0.knows i x (h.0.knows i x a);
    offers = λ i x a. ⊎_elim
        (λ (b : HasOffered v i x). ⊎_elim (λ (c : HasOffered u i x). inl c) (λ (c : P i x). inr (first i x c)) (h.0.offers i x b))
        (λ (b : Q i x). inr (second i x b))
        (k.0.offers i x a);
  },
  λ i x o. ⊎_elim
      (λ (a : P i x). let c = h.1 i x a in (c.0, k.0.knows i c.0 c.1, c.2))
      (λ (b : Q i x). k.1 i x b)
      (split i x o),
)
