-- Nodes dealt over pieces by their ranks: each rank has an item, and no two ranks have the same item.
use Rattle.std.proofs.Common.{◌≡◌, ℕ, zero, suc, ◌+◌, ◌-◌, ◌*◌, ◌/◌, ◌%◌, ◌<◌, ◌≤◌, min, sym, ap, ◌∙◌, subst, arith, inl, inr}
use Rattle.std.proofs.Math.Nat.{mod-lt}
use Rattle.std.proofs.lemmas.Nat.{div-add-mod', mul-le, same_from_place}
use Rattle.std.proofs.lemmas.Bool.{cases_lt, lt-ltb, le-ltb}
use Rattle.ch_hierarchy.specs.Hierarchy.{LevelsAndLegs, nodes_of}
use Rattle.ch_rows.specs.Dealing.{Deal, before_last, last_size, to_all, turn_of, item_at, item_of, deal_of}

-- if a * k is below b * k, a is less than b
less_times : (a b k r : ℕ) → a * k ≤ r → r < b * k → a < b
less_times a b k r low high = elim (cases_lt a b) [
  | inl lt ↦ lt
  | inr past ↦ absurd (let most = mul-le b k a k past (omega arith) in omega arith)
]

-- if a product is more than a number, its second factor is not 0
positive_factor : (w b r : ℕ) → r < w * b → 0 < b
positive_factor w zero r lt = absurd (omega arith)
positive_factor w (suc b) r lt = omega arith

-- the turn of a node: its piece has an item for its round, and it comes after all nodes of earlier rounds and the
-- earlier nodes of its own round
pub record IsTurn (b z piece rank : ℕ) (turn : ℕ × ℕ) : Type 0 where
  pub place : turn.0 ≤ b
  pub within : turn.1 < piece
  pub last : turn.0 ≡ b → turn.1 < z
  pub count : rank ≡ turn.1 * b + min turn.1 z + turn.0

-- after all pieces have z items each, the rest is dealt to the b pieces that have w more items
after : (w z b n rank r : ℕ) → b * (w + z) + z ≡ n → rank < n → r + z * (b + 1) ≡ rank →
    (r % b < b) × (z + r / b < w + z) × (rank ≡ (z + r / b) * b + min (z + r / b) z + r % b)
after w z b n rank r grid lt back =
    let low : r < w * b = omega arith in
    let some : 0 < b = positive_factor w b r low in
    let whole = div-add-mod' r b in
    let few = less_times (r / b) w b r (omega arith) low in
    (mod-lt r some, omega arith, omega arith)

-- the sizes of the pieces
module _ (d : Deal) (some : 0 < d.nodes) (positive : 0 < d.piece) where
  abbrev b : ℕ
  b = before_last d

  abbrev z : ℕ
  z = last_size d

  pub sizes : (b * d.piece + z ≡ d.nodes) × (0 < z) × (z ≤ d.piece)
  sizes =
      let whole = div-add-mod' (d.nodes - 1) d.piece in
      let less = mod-lt (d.nodes - 1) positive in
      (omega arith, omega arith, omega arith)

  -- the turns of the nodes that are dealt over all pieces
  shared : (rank : ℕ) → rank < to_all d → IsTurn b z d.piece rank (rank % (b + 1), rank / (b + 1))
  shared rank lt =
      let q = rank / (b + 1) in
      let whole = div-add-mod' rank (b + 1) in
      let less = mod-lt rank (let h : 0 < b + 1 = omega arith in h) in
      let few = less_times q z (b + 1) rank (omega arith) lt in
      let all = sizes in
      record { place = omega arith; within = omega arith; last = λ _. few; count = omega arith }

  -- the turns of the nodes after these
  rest : (rank : ℕ) → rank < d.nodes → to_all d ≤ rank → IsTurn b z d.piece rank ((rank - to_all d) % b, z + (rank - to_all d) / b)
  rest rank lt past =
      let all = sizes in
      let r = rank - to_all d in
      let back : r + z * (b + 1) ≡ rank = omega arith in
      let w = d.piece - z in
      let wide : w + z ≡ d.piece = omega arith in
      let grid : b * (w + z) + z ≡ d.nodes = subst (λ p. b * p + z ≡ d.nodes) (sym wide) all.0 in
      let is = after w z b d.nodes rank r grid lt back in
      record { place = omega arith; within = omega arith; last = λ e. absurd (omega arith); count = is.2 }

  -- the turns of all nodes
  pub turn_is : (rank : ℕ) → rank < d.nodes → IsTurn b z d.piece rank (turn_of d rank)
  turn_is rank lt = elim (cases_lt rank (to_all d)) [
    | inl early ↦ rw (lt-ltb rank (to_all d) early) (shared rank early)
    | inr late ↦ rw (le-ltb rank (to_all d) late) (rest rank lt late)
  ]

  -- the place of an item: it is an item of its piece, as far from the end as its round says
  module _ (rank : ℕ) (turn : ℕ × ℕ) (is : IsTurn b z d.piece rank turn) where
    pub stands : (turn.0 * d.piece ≤ item_at d turn) × (item_at d turn < turn.0 * d.piece + d.piece)
        × (item_at d turn + turn.1 + 1 ≡ min ((turn.0 + 1) * d.piece) d.nodes) × (item_at d turn < d.nodes)
    stands = elim (cases_lt turn.0 b) [
      | inl low ↦
          let all = sizes in
          let most = mul-le (turn.0 + 1) d.piece b d.piece (omega arith) (omega arith) in
          let within = is.within in
          (omega arith, omega arith, omega arith, omega arith)
      | inr high ↦
          let all = sizes in
          let place = is.place in
          let e : turn.0 ≡ b = omega arith in
          let few = is.last e in
          let here : turn.0 * d.piece ≡ b * d.piece = ap (λ q. q * d.piece) e in
          (omega arith, omega arith, omega arith, omega arith)
    ]

  -- two ranks with the same item are equal
  pub ranks_apart : (r s : ℕ) → r < d.nodes → s < d.nodes → item_at d (turn_of d r) ≡ item_at d (turn_of d s) → r ≡ s
  ranks_apart r s low low' same =
      let t = turn_of d r in
      let u = turn_of d s in
      let first = turn_is r low in
      let second = turn_is s low' in
      let at = stands r t first in
      let at' = stands s u second in
      let split = same_from_place t.0 (item_at d t - t.0 * d.piece) u.0 (item_at d u - u.0 * d.piece) d.piece
      (let h = at.1 in omega arith) (let h = at'.1 in omega arith) (let h = at.0 in let h' = at'.0 in omega arith) in
      let ends : min ((t.0 + 1) * d.piece) d.nodes ≡ min ((u.0 + 1) * d.piece) d.nodes =
      ap (λ q. min ((q + 1) * d.piece) d.nodes) split.0 in
      let rounds : t.1 ≡ u.1 = (let h = at.2 in let h' = at'.2 in omega arith) in
      first.count ∙ (λ i. rounds i * b + min (rounds i) z + split.0 i) ∙ sym second.count

-- the item of a rank is below the number of nodes
pub item_below : (d : Deal) → 0 < d.piece → (rank : ℕ) → rank < d.nodes → item_of d rank < d.nodes
item_below d positive rank lt = (stands d (omega arith) positive rank (turn_of d rank) (turn_is d (omega arith) positive rank lt)).3

-- two ranks with the same item are equal
pub items_apart : (d : Deal) → 0 < d.piece → (r s : ℕ) → r < d.nodes → s < d.nodes → item_of d r ≡ item_of d s → r ≡ s
items_apart d positive r s low low' same = ranks_apart d (omega arith) positive r s low low' same

-- a round is within its piece
pub round_fits : (d : Deal) → 0 < d.piece → (rank : ℕ) → rank < d.nodes → (turn : ℕ × ℕ) → turn ≡ turn_of d rank →
    turn.1 ≤ min ((turn.0 + 1) * d.piece) d.nodes - 1
round_fits d positive rank lt turn is =
    let at = stands d (omega arith) positive rank turn
    (subst (IsTurn (before_last d) (last_size d) d.piece rank) (sym is) (turn_is d (omega arith) positive rank lt)) in
    let sum = at.2 in omega arith

-- the numbers of nodes and items of a deal
pub dealt_by : (H : LevelsAndLegs) (d : Deal) (nodes piece p : ℕ) → d ≡ record { nodes = nodes; piece = piece } → nodes ≡ nodes_of H →
    piece ≡ p → d ≡ deal_of H p
dealt_by H d nodes piece p is same same' =
    let given : Deal = record { nodes = nodes; piece = piece } in
    let there : given ≡ deal_of H p = λ k. record { nodes = same k; piece = same' k } in is ∙ there
