-- The rows that are lowered over one node, one after the other.
use Rattle.std.proofs.Common.{◌≡◌, ℕ, ◌+◌, ◌<◌, List, [], length, get_or, set, refl, sym, ◌∙◌, ap, subst, arith, inl, inr, length-set}
use Rattle.std.proofs.Common.{get_or-set_other}
use Rattle.std.specs.Prelude.{◌≢◌, All}
use Rattle.std.proofs.lemmas.Bool.{cases_eq}
use Rattle.std.proofs.lemmas.List.{get_or_default}
use Rattle.ch_hierarchy.specs.declared.leg.Leg.{Leg}
use Rattle.ch_hierarchy.specs.Rows.{row, IsRow}
use Rattle.ch_custom.specs.Metric.{IsHeld, AreLoweredOver}
use Rattle.ch_custom.specs.Topologies.{AreRelaxedTo}
use Rattle.ch_custom.proofs.theory.Relaxing.{node_of}

-- no row is lowered yet
pub relaxed_none : (n v : ℕ) (firsts seconds : List Leg) (old : List (List Leg)) → AreRelaxedTo n v firsts seconds 0 old old
relaxed_none n v firsts seconds old = record {
  size = refl;
  lowered = λ a d lt inside. absurd (omega arith);
  held = λ a d lt inside. absurd (omega arith);
  kept = λ x none. refl;
}

module _ (n v : ℕ) (firsts seconds : List Leg) (place : ℕ) (old now : List (List Leg)) (r : AreRelaxedTo n v firsts seconds place old now)
    (ordered : IsRow seconds) (inside : place < length seconds) (d : Leg) where
  -- the node of this place
  abbrev pub here : ℕ
  here = (get_or seconds place d).node

  -- its row is as it was
  pub still : row now here ≡ row old here
  still = r.kept here (λ a e lt below same. let less = ordered a place e lt inside in
      let at : (get_or seconds place e).node ≡ (get_or seconds place d).node = ap node_of (get_or_default seconds place e d inside) in
      omega arith)

  -- its row is one of those that are there
  pub there : here < length old → here < length now
  there lt = subst (λ z. here < z) (sym r.size) lt

  -- one more row is lowered
  pub relaxed_more : (new : List (List Leg)) (f : Leg) → place < length firsts → here < length now → new ≡ set now here (row new here) →
      AreLoweredOver n v (get_or firsts place f) seconds (row now here) (row new here) → All IsHeld (row new here) →
      AreRelaxedTo n v firsts seconds (place + 1) old new
  relaxed_more new f many below edited low held = record {
    size = ap length edited ∙ length-set now here (row new here) ∙ r.size;
    lowered = λ a e lt within. elim (cases_eq a place) [
      | inl same ↦
          let at : here ≡ (get_or seconds a e).node = ap node_of (get_or_default seconds place d e inside)
          ∙ ap (λ z. (get_or seconds z e).node) (sym same) in
          let first : get_or firsts place f ≡ get_or firsts a e = get_or_default firsts place f e many
          ∙ ap (λ z. get_or firsts z e) (sym same) in
          subst (λ z. AreLoweredOver n v (get_or firsts a e) seconds (row old z) (row new z)) at
          (subst (λ z. AreLoweredOver n v z seconds (row old here) (row new here)) first
          (subst (λ z. AreLoweredOver n v (get_or firsts place f) seconds z (row new here)) still low))
      | inr ne ↦
          let first : a < place = omega arith in
          subst (AreLoweredOver n v (get_or firsts a e) seconds (row old (get_or seconds a e).node))
          (sym (other (get_or seconds a e).node (earlier a e first))) (r.lowered a e first within)
    ];
    held = λ a e lt within. elim (cases_eq a place) [
      | inl same ↦
          let at : here ≡ (get_or seconds a e).node = ap node_of (get_or_default seconds place d e inside)
          ∙ ap (λ z. (get_or seconds z e).node) (sym same) in
          subst (λ z. All IsHeld (row new z)) at held
      | inr ne ↦
          let first : a < place = omega arith in
          subst (All IsHeld) (sym (other (get_or seconds a e).node (earlier a e first))) (r.held a e first within)
    ];
    kept = λ x none. other x (λ same. none place d (omega arith) inside (sym same))
        ∙ r.kept x (λ a e lt within at. none a e (omega arith) within at);
  }
    where
      other : (x : ℕ) → x ≢ here → row new x ≡ row now x
      other x ne = ap (λ z. row z x) edited ∙ get_or-set_other now here x (row new here) [] ne

      earlier : (a : ℕ) (e : Leg) → a < place → (get_or seconds a e).node ≢ here
      earlier a e lt same = let less = ordered a place e lt inside in
          let at : (get_or seconds place e).node ≡ (get_or seconds place d).node = ap node_of (get_or_default seconds place e d inside) in
          omega arith
