-- The places of offers, as they come in and as they are taken out.
use Rattle.std.proofs.Common.{◌≡◌, ℕ, ◌<◌, ◌⊎◌, List, [], ◌∷◌, ◌++◌, length, get_or, set, Contains, refl, sym, ◌∙◌, ap}
use Rattle.std.proofs.Common.{subst, arith, inl, inr}
use Rattle.std.specs.Prelude.{◌≢◌, AllPairs}
use Rattle.std.proofs.lemmas.Bool.{cases_eq}
use Rattle.std.proofs.lemmas.List.{length-set, get_or-set_same, get_or-set_other, get_or_at}
use Rattle.std.proofs.lemmas.List.{length_push, get_or_append_left}
use Rattle.std.proofs.lemmas.List.Elements.{Contains-append_left, Contains-push, Contains-push_cases, Contains-get_or}
use Rattle.std.proofs.lemmas.List.Quantifiers.{all_pairs_push}
use Rattle.ch_graph.proofs.Lists.{contains_none}
use Rattle.ch_rows.specs.declared.offers.TheConstants.{UNOFFERED}
use Rattle.ch_rows.specs.Offers.{AreListed, AreUnoffered, AreTaken}

module _ (least places : List ℕ) (a : AreListed least places) (p w : ℕ) (low : p < length least) (some : w ≢ UNOFFERED) where
  -- the weight of the place that was lowered, and the weights of other places
  at_place : (j : ℕ) → j ≡ p → get_or (set least p w) j 0 ≡ w
  at_place j same = ap (λ q. get_or (set least p w) q 0) same ∙ get_or-set_same least p w 0 low

  -- a place with an offer gets another offer
  pub listed_again : get_or least p 0 ≢ UNOFFERED → AreListed (set least p w) places
  listed_again had = record {
    distinct = a.distinct;
    sound = λ j h.
        let r = a.sound j h in
        let size = length-set least p w in
        let lt = r.0 in (
          omega arith,
          λ e. elim (cases_eq j p) [
            | inl same ↦ some (sym (at_place j same) ∙ e)
            | inr other ↦ r.1 (sym (get_or-set_other least p j w 0 other) ∙ e)
          ],
        );
    whole = λ j lt offered.
        let size = length-set least p w in
        elim (cases_eq j p) [
          | inl same ↦ subst (Contains places) (sym same) (a.whole p low had)
          | inr other ↦ a.whole j (omega arith) (λ e. offered (get_or-set_other least p j w 0 other ∙ e))
        ];
  }

  -- a place without an offer gets its first offer
  pub listed_more : get_or least p 0 ≡ UNOFFERED → (places' : List ℕ) → places' ≡ places ++ p ∷ [] → AreListed (set least p w) places'
  listed_more none places' is = subst (AreListed (set least p w)) (sym is) (record {
    distinct = all_pairs_push ◌≢◌ places p a.distinct (λ k d lt same.
        let r = a.sound (get_or places k d) (Contains-get_or places k d lt) in
        r.1 (ap (λ q. get_or least q 0) same ∙ none));
    sound = λ j h.
        let size = length-set least p w in
        elim (Contains-push_cases places p j h) [
          | inl old ↦
              let r = a.sound j old in
              let lt = r.0 in (
                omega arith,
                λ e. elim (cases_eq j p) [
                  | inl same ↦ some (sym (at_place j same) ∙ e)
                  | inr other ↦ r.1 (sym (get_or-set_other least p j w 0 other) ∙ e)
                ],
              )
          | inr new ↦ (let e : p ≡ j = new in omega arith, λ e. some (sym (at_place j (sym new)) ∙ e))
        ];
    whole = λ j lt offered.
        let size = length-set least p w in
        elim (cases_eq j p) [
          | inl same ↦ subst (Contains (places ++ p ∷ [])) (sym same) (Contains-push places p)
          | inr other ↦ Contains-append_left places (p ∷ []) j
              (a.whole j (omega arith) (λ e. offered (get_or-set_other least p j w 0 other ∙ e)))
        ];
  })

-- the last place is taken out
module _ (least places : List ℕ) (p : ℕ) (a : AreListed least (places ++ p ∷ [])) where
  last_has : (p < length least) × (get_or least p 0 ≢ UNOFFERED)
  last_has = a.sound p (Contains-push places p)

  pub last_within : p < length least
  last_within = last_has.0

  pub last_offered : get_or least p 0 ≢ UNOFFERED
  last_offered = last_has.1

  gone : get_or (set least p UNOFFERED) p 0 ≡ UNOFFERED
  gone = get_or-set_same least p UNOFFERED 0 last_within

  not_last : (j : ℕ) → Contains places j → j ≢ p
  not_last j h same =
      let size = length_push places p in
      let lt = h.1 in
      a.distinct h.0 (length places) j (omega arith) (omega arith)
      (get_or_append_left places (p ∷ []) j h.0 h.1 ∙ h.2 ∙ same ∙ sym (get_or_at places p [] j (length places) refl))

  pub listed_less : AreListed (set least p UNOFFERED) places
  listed_less = record {
    distinct = λ i j d lt within.
        let size = length_push places p in
        λ same. a.distinct i j d lt (omega arith) (get_or_append_left places (p ∷ []) d i (omega arith) ∙ same
        ∙ sym (get_or_append_left places (p ∷ []) d j within));
    sound = λ j h.
        let r = a.sound j (Contains-append_left places (p ∷ []) j h) in
        let size = length-set least p UNOFFERED in
        let lt = r.0 in
        (omega arith, λ e. r.1 (sym (get_or-set_other least p j UNOFFERED 0 (not_last j h)) ∙ e));
    whole = λ j lt offered.
        let size = length-set least p UNOFFERED in
        elim (cases_eq j p) [
          | inl same ↦ absurd (offered (ap (λ q. get_or (set least p UNOFFERED) q 0) same ∙ gone))
          | inr other ↦ elim (Contains-push_cases places p j
              (a.whole j (omega arith) (λ e. offered (get_or-set_other least p j UNOFFERED 0 other ∙ e)))) [
                | inl old ↦ old
                | inr new ↦ absurd (other (sym new))
              ]
        ];
  }

-- the places in the row are taken out, and all other places are as they were
pub record AreOut (all least : List ℕ) (row : List (ℕ × ℕ)) : Type 0 where
  pub size : length least ≡ length all
  pub apart : AllPairs (λ a b. a.1 ≢ b.1) row
  pub sound : (e : ℕ × ℕ) → Contains row e →
      (e.1 < length all) × (get_or all e.1 0 ≡ e.0) × (e.0 ≢ UNOFFERED) × (get_or least e.1 0 ≡ UNOFFERED)
  pub same : (j : ℕ) → j < length all → (get_or least j 0 ≡ get_or all j 0) ⊎ Contains row (get_or all j 0, j)

pub none_out : (all : List ℕ) → AreOut all all []
none_out all = record {
  size = refl;
  apart = λ i j d lt within. absurd (omega arith);
  sound = λ e h. absurd (contains_none e h);
  same = λ j lt. inl refl;
}

pub one_out : (all least places : List ℕ) (p : ℕ) (row row' : List (ℕ × ℕ)) → AreListed least (places ++ p ∷ []) →
    AreOut all least row → row' ≡ row ++ (get_or least p 0, p) ∷ [] →
    AreOut all (set least p UNOFFERED) row'
one_out all least places p row row' a out is = subst (AreOut all (set least p UNOFFERED)) (sym is) (record {
  size = length-set least p UNOFFERED ∙ out.size;
  apart = all_pairs_push (λ (a b : ℕ × ℕ). a.1 ≢ b.1) row (get_or least p 0, p) out.apart
      (λ k d lt same. before (get_or row k d) (Contains-get_or row k d lt) same);
  sound = λ e h. elim (Contains-push_cases row (get_or least p 0, p) e h) [
    | inl old ↦
        let r = out.sound e old in
        (r.0, r.1, r.2, get_or-set_other least p e.1 UNOFFERED 0 (before e old) ∙ r.3)
    | inr new ↦
        let place : p ≡ e.1 = ap (λ (q : ℕ × ℕ). q.1) new in
        let weight : get_or least p 0 ≡ e.0 = ap (λ (q : ℕ × ℕ). q.0) new in
        let size = out.size in
        let lt = last_within least places p a in (
          omega arith,
          ap (λ q. get_or all q 0) (sym place) ∙ sym was ∙ weight,
          λ q. last_offered least places p a (weight ∙ q),
          ap (λ q. get_or (set least p UNOFFERED) q 0) (sym place) ∙ get_or-set_same least p UNOFFERED 0 lt,
        )
  ];
  same = λ j lt. elim (cases_eq j p) [
    | inl here ↦ inr (subst (Contains (row ++ (get_or least p 0, p) ∷ []))
        (λ i. ((was ∙ ap (λ q. get_or all q 0) (sym here)) i, sym here i)) (Contains-push row (get_or least p 0, p)))
    | inr other ↦ elim (out.same j lt) [
      | inl still ↦ inl (get_or-set_other least p j UNOFFERED 0 other ∙ still)
      | inr old ↦ inr (Contains-append_left row ((get_or least p 0, p) ∷ []) (get_or all j 0, j) old)
    ]
  ];
})
  where
    before : (e : ℕ × ℕ) → Contains row e → e.1 ≢ p
    before e h same = last_offered least places p a (ap (λ q. get_or least q 0) (sym same) ∙ (out.sound e h).3)

    was : get_or least p 0 ≡ get_or all p 0
    was =
        let size = out.size in
        let lt = last_within least places p a in
        elim (out.same p (omega arith)) [
          | inl still ↦ still
          | inr old ↦ absurd (before (get_or all p 0, p) old refl)
        ]

-- once no place is left, all offers are taken out
pub all_out : (all least : List ℕ) (row : List (ℕ × ℕ)) → AreListed least [] → AreOut all least row →
    AreTaken all row × AreUnoffered (length all) least
all_out all least row a out = (
  record {
    apart = out.apart;
    sound = λ e h. let r = out.sound e h in (r.0, r.1, r.2);
    whole = λ j lt offered. elim (out.same j lt) [
      | inl still ↦ absurd (offered (sym still ∙ none j lt))
      | inr in_row ↦ in_row
    ];
  },
  record { size = out.size; each = none },
)
  where
    none : (j : ℕ) → j < length all → get_or least j 0 ≡ UNOFFERED
    none j lt =
        let size = out.size in
        elim (cases_eq (get_or least j 0) UNOFFERED) [
          | inl is ↦ is
          | inr some ↦ absurd (contains_none j (a.whole j (omega arith) some))
        ]
