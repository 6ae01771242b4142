-- Orders that grow by a node that they lack, until they have all nodes.
use Rattle.std.proofs.Common.{◌≡◌, ℕ, zero, Bool, false, ◌+◌, ◌<◌, ◌≤◌, List, [], ◌∷◌, ◌++◌, length, get_or}
use Rattle.std.proofs.Common.{take, refl, sym, ◌∙◌, ap, subst, arith, inl, inr, Contains}
use Rattle.std.specs.Prelude.{replicate}
use Rattle.std.proofs.lemmas.Bool.{cases_eq}
use Rattle.std.proofs.lemmas.List.{length-replicate, get_or-replicate, length-take-le, get_or-take, get_or_default, take_all, take_more}
use Rattle.std.proofs.lemmas.List.Elements.{Contains-append_left, Contains-append_right}
use Rattle.ch_hierarchy.specs.Saved.{IsOrderOf}
use Rattle.ch_hierarchy.proofs.theory.Ordered.{distinct_most, whole_least, every_number}
use Rattle.ch_dissect.specs.Orders.{IsBegun, IsPut}

-- at the beginning there is no node
pub begun_none : (n : ℕ) → IsBegun n [] (replicate n false)
begun_none n = record {
  marks = length-replicate n false;
  within = λ k d lt. absurd (omega arith);
  distinct = λ i j d lt within. absurd (omega arith);
  marked = λ v lt is. let e : get_or (replicate n false) v false ≡ false = get_or-replicate n v false false lt in cc;
  others = λ v lt is (k, less, e). absurd (omega arith);
}

-- an order in which each node below n was put is whole
pub whole_order : (n : ℕ) (nodes : List ℕ) (taken : List Bool) → IsBegun n nodes taken → ((v : ℕ) → v < n → Contains nodes v) →
    IsOrderOf n nodes
whole_order n nodes taken h each =
    let most = distinct_most nodes n h.distinct (λ q (k, lt, e). subst (λ z. z < n) e (h.within k q lt)) in
    let least = whole_least nodes n each in
    record {
      count = omega arith;
      within = λ i lt. h.within i 0 lt;
      distinct = λ i j less lt. h.distinct i j 0 less lt;
    }

-- a node that is put is there, and all others stay
pub put_has : (n v : ℕ) (old new : List ℕ) → IsPut n v old new → v < n → Contains new v
put_has n v old new (inl (same, has)) lt = subst (λ z. Contains z v) (sym same) (has lt)
put_has n v old new (inr (longer, never)) lt =
    subst (λ z. Contains z v) (sym longer) (Contains-append_right old (v ∷ []) v (zero, omega arith, refl))

pub put_keeps : (n v w : ℕ) (old new : List ℕ) → IsPut n v old new → Contains old w → Contains new w
put_keeps n v w old new (inl (same, has)) c = subst (λ z. Contains z w) (sym same) c
put_keeps n v w old new (inr (longer, never)) c = subst (λ z. Contains z w) (sym longer) (Contains-append_left old (v ∷ []) w c)

-- the next node of a whole order is put
pub put_next : (n k : ℕ) (list old new : List ℕ) → IsOrderOf n list → k < length list → old ≡ take k list →
    IsPut n (get_or list k 0) old new → new ≡ take (k + 1) list
put_next n k list old new is lt e (inr (longer, never)) = longer ∙ ap (λ z. z ++ get_or list k 0 ∷ []) e ∙ sym (take_more list k 0 lt)
put_next n k list old new is lt e (inl (same, has)) =
    let c = subst (λ z. Contains z (get_or list k 0)) e (has (is.within k lt)) in
    absurd (before c)
  where
    before : Contains (take k list) (get_or list k 0) → ⊥
    before (i, less, at) =
        let size = length-take-le k list (omega arith) in
        let first : i < k = omega arith in
        is.distinct i k first lt
        (let v = get_or list k 0 in
        let d : get_or (take k list) i v ≡ get_or list i v = get_or-take k list i v first in
        get_or_default list i 0 (get_or list k 0) (omega arith) ∙ sym d ∙ at)

-- no node is put into a whole order
pub put_none : (n v : ℕ) (list old new : List ℕ) → IsOrderOf n list → v < n → old ≡ list → IsPut n v old new → new ≡ list
put_none n v list old new is lt e (inl (same, has)) = same ∙ e
put_none n v list old new is lt e (inr (longer, never)) =
    absurd (never (subst (λ z. Contains z v) (sym e) (every_number list n v is.count
    (λ k d less. subst (λ z. z < n) (get_or_default list k 0 d less) (is.within k less))
    (λ i j d less within same. is.distinct i j less within
    (get_or_default list i 0 d (omega arith) ∙ same ∙ get_or_default list j d 0 within)) lt)))

-- no node and no mark
pub begun_empty : (n : ℕ) (nodes : List ℕ) (taken : List Bool) → nodes ≡ [] → taken ≡ replicate n false → IsBegun n nodes taken
begun_empty n nodes taken e f = subst (λ z. IsBegun n z taken) (sym e) (subst (IsBegun n []) (sym f) (begun_none n))

-- the nodes with lesser numbers, and one more, are there
pub each_more : (n k : ℕ) (old new : List ℕ) → IsPut n k old new → k < n → ((v : ℕ) → v < k → Contains old v) → (v : ℕ) → v < k + 1 →
    Contains new v
each_more n k old new put lt each v less = elim (cases_eq v k) [
  | inl same ↦ subst (Contains new) (sym same) (put_has n k old new put lt)
  | inr ne ↦ put_keeps n k v old new put (each v (omega arith))
]

-- the first nodes of a list that are all of them
pub all_put : (k : ℕ) (list nodes : List ℕ) → length list ≤ k → nodes ≡ take k list → nodes ≡ list
all_put k list nodes le e = e ∙ take_all k list le
