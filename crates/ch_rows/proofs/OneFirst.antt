-- Two lists of the first pairs with the same property are equal.
use Rattle.std.proofs.Common.{◌≡◌, ℕ, zero, suc, ◌<◌, ◌≤◌, ◌⊎◌, List, length, get_or, Contains, Option, Some, None, sym, ◌∙◌, ap}
use Rattle.std.proofs.Common.{subst, arith, inl, inr}
use Rattle.std.specs.Prelude.{AllPairs}
use Rattle.std.proofs.lemmas.Bool.{cases_lt}
use Rattle.std.proofs.lemmas.List.{get_or_default, ext_get_or}
use Rattle.std.proofs.lemmas.List.Elements.{Contains-get_or}
use Rattle.std.proofs.lemmas.Option.{none-some}
use Rattle.ch_query.specs.Limits.{IsWithin}
use Rattle.ch_rows.specs.First.{IsNearer, AreFirst}
use Rattle.ch_rows.proofs.Orders.{nearer_then, nearer_never}

abbrev d : ℕ × ℕ
d = (0, 0)

-- the pair a is equal to b, or comes before b
abbrev IsNoFarther : ℕ × ℕ → ℕ × ℕ → Type 0
IsNoFarther a b = (a ≡ b) ⊎ IsNearer a b

not_before : (a b : ℕ × ℕ) → IsNoFarther a b → IsNearer b a → ⊥
not_before a b (inl same) near = nearer_never b (subst (IsNearer b) same near)
not_before a b (inr far) near = nearer_never b (nearer_then b a b near far)

both_ways : (a b : ℕ × ℕ) → IsNoFarther a b → IsNoFarther b a → a ≡ b
both_ways a b (inl same) _ = same
both_ways a b (inr near) (inl same) = sym same
both_ways a b (inr near) (inr far) = absurd (nearer_never a (nearer_then a b a near far))

-- a later pair does not come before an earlier one
no_farther : (xs : List (ℕ × ℕ)) → AllPairs IsNearer xs → (i k : ℕ) → i ≤ k → k < length xs → IsNoFarther (get_or xs i d) (get_or xs k d)
no_farther xs order i k le lt = elim (cases_lt i k) [
  | inl less ↦ inr (order i k d less lt)
  | inr past ↦ let same : i ≡ k = omega arith in inl (ap (λ q. get_or xs q d) same)
]

enough : (count : Option ℕ) (m n : ℕ) → count ≡ Some m → IsWithin count n → n ≤ m
enough count m n is few = at count is few
  where
    at : (c : Option ℕ) → c ≡ Some m → IsWithin c n → n ≤ m
    at None e few = absurd (none-some m e)
    at (Some k) e few = let same : k ≡ m = cc in omega arith

module _ (count : Option ℕ) (P : ℕ × ℕ → Type 0) (xs ys : List (ℕ × ℕ)) (a : AreFirst count P xs) (b : AreFirst count P ys) where
  -- the lists agree up to i
  abbrev Agree : ℕ → Type 0
  Agree i = (k : ℕ) → k < i → (k < length ys) × (get_or ys k d ≡ get_or xs k d)

  -- if all pairs of one list before i come before e, and the lists agree up to i, e is at i or later in the other
  later : (i : ℕ) → i ≤ length xs → Agree i → (e : ℕ × ℕ) → ((k : ℕ) → k < i → IsNearer (get_or xs k d) e) → (h : Contains ys e) → i ≤ h.0
  later i le agree e near h = elim (cases_lt h.0 i) [
    | inl less ↦ absurd (
        let at = agree h.0 less in
        let is = get_or_default ys h.0 d e h.1 ∙ h.2 in
        nearer_never e (subst (λ q. IsNearer q e) (sym at.1 ∙ is) (near h.0 less)))
    | inr past ↦ past
  ]

  -- they agree at i
  agree_at : (i : ℕ) → i < length xs → Agree i → (i < length ys) × (get_or ys i d ≡ get_or xs i d)
  agree_at i lt agree =
      let e = get_or xs i d in
      elim (b.whole e (a.sound e (Contains-get_or xs i d lt))) [
        | inl h ↦
            let past = later i (omega arith) agree e (λ k less. a.order k i d less lt) h in
            let low : i < length ys = (let within = h.1 in omega arith) in
            let f = get_or ys i d in
            let is = get_or_default ys h.0 d e h.1 ∙ h.2 in
            let after = no_farther ys b.order i h.0 past h.1 in
            let f_first : IsNoFarther f e = subst (IsNoFarther f) is after in (
              low,
              elim (a.whole f (b.sound f (Contains-get_or ys i d low))) [
                | inl g ↦
                    let is' = get_or_default xs g.0 d f g.1 ∙ g.2 in
                    let after : i ≤ g.0 = elim (cases_lt g.0 i) [
                      | inl less ↦ absurd (
                          let at = agree g.0 less in
                          let near = b.order g.0 i d less low in
                          nearer_never f (subst (λ q. IsNearer q f) (at.1 ∙ is') near))
                      | inr past ↦ past
                    ] in
                    both_ways f e f_first (subst (IsNoFarther e) is' (no_farther xs a.order i g.0 after g.1))
                | inr full ↦ absurd (not_before f e f_first (full.1 i d lt))
              ],
            )
        | inr full ↦ absurd (
            let few = enough count (length ys) (length xs) full.0 a.few in
            let low : i < length ys = omega arith in
            let f = get_or ys i d in
            let near = full.1 i d low in
            elim (a.whole f (b.sound f (Contains-get_or ys i d low))) [
              | inl g ↦
                  let is' = get_or_default xs g.0 d f g.1 ∙ g.2 in
                  let after : i ≤ g.0 = elim (cases_lt g.0 i) [
                    | inl less ↦ absurd (
                        let at = agree g.0 less in
                        let near' = b.order g.0 i d less low in
                        nearer_never f (subst (λ q. IsNearer q f) (at.1 ∙ is') near'))
                    | inr past ↦ past
                  ] in
                  not_before e f (subst (IsNoFarther e) is' (no_farther xs a.order i g.0 after g.1)) near
              | inr full' ↦ nearer_never e (nearer_then e f e (full'.1 i d lt) near)
            ])
      ]

  pub agree_all : (n : ℕ) → n ≤ length xs → Agree n
  agree_all zero le k lt = absurd (omega arith)
  agree_all (suc n) le k lt =
      let before = agree_all n (omega arith) in
      elim (cases_lt k n) [
        | inl less ↦ before k less
        | inr here ↦
            let same : n ≡ k = omega arith in
            subst (λ q. (q < length ys) × (get_or ys q d ≡ get_or xs q d)) same (agree_at n (omega arith) before)
      ]

  pub no_longer : length xs ≤ length ys
  no_longer = elim (cases_lt (length ys) (length xs)) [
    | inl less ↦ absurd (let at = (agree_all (length xs) (omega arith) (length ys) less).0 in omega arith)
    | inr le ↦ le
  ]

pub one_first : (count : Option ℕ) (P : ℕ × ℕ → Type 0) (xs ys : List (ℕ × ℕ)) → AreFirst count P xs → AreFirst count P ys → xs ≡ ys
one_first count P xs ys a b =
    let le = no_longer count P xs ys a b in
    let ge = no_longer count P ys xs b a in
    ext_get_or d xs ys (omega arith) (λ i lt. sym (agree_all count P xs ys a b (length xs) (omega arith) i lt).1)
