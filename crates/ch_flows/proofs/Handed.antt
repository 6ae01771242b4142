-- A leg hands its flow to its halves: nothing is lost, and what is too much for a half is too much for its arcs.
use Rattle.std.proofs.Common.{◌≡◌, ◌≢◌, ℕ, ◌+◌, ◌*◌, ◌<◌, ◌≤◌, List, length, get_or, set, take, Option, Some, None, refl, sym, ◌∙◌, ap}
use Rattle.std.proofs.Common.{arith}
use Rattle.std.proofs.Math.Nat.{mul-add, mul-le-mul_left}
use Rattle.std.proofs.lemmas.List.{get_or-set_other, get_or-set_same}
use Rattle.std.proofs.Math.ListN.{length-set}
use Rattle.std.proofs.lemmas.List.Sums.{sum_by_more, sum_by-take-le}
use Rattle.std.specs.List.{sum_by}
use Rattle.ch_flows.specs.declared.handing.Halves.{Halves}
use Rattle.ch_flows.specs.Handing.{AreParts, AreShares, IsCount, IsExcess, IsExcessAlong, IsHanded, IsPassed, part_at, shares_of, weighed}
use Rattle.ch_flows.proofs.Weighed.{none_left, none_right, weighed-handed, weighed-more, weighed-only, weighed-part}

-- a flow is handed to two legs
pub handed : (parts : List (Option Halves)) → AreParts parts → (flows : List ℕ) → length flows ≡ length parts → (place : ℕ) →
    place < length parts →
    (halves : Halves) → part_at parts place ≡ Some halves → (cleared once twice : List ℕ) → cleared ≡ set flows place 0 →
    once ≡ set cleared halves.first (get_or cleared halves.first 0 + get_or flows place 0) →
    twice ≡ set once halves.second (get_or once halves.second 0 + get_or flows place 0) →
    IsHanded parts place flows twice
handed parts are flows long place low halves is cleared once twice ec eo et =
    let f = get_or flows place 0 in
    let a = halves.first in
    let b = halves.second in
    let after = are place halves low is in
    let size : length cleared ≡ length flows = ap length ec ∙ length-set flows place 0 in
    let more : length once ≡ length flows = ap length eo ∙ length-set cleared a (get_or cleared a 0 + f) ∙ size in
    let far : place ≢ a = λ e. omega (arith, e, after.0) in
    let further : place ≢ b = λ e. omega (arith, e, after.1) in
    record {
      kept = λ share shares.
          let first : weighed share once ≡ weighed share cleared + f * share a =
          ap (weighed share) eo ∙ weighed-more share cleared a f (omega (arith, after.2, size, long)) in
          let second : weighed share twice ≡ weighed share once + f * share b =
          ap (weighed share) et ∙ weighed-more share once b f (omega (arith, after.3, more, long)) in
          let whole : weighed share (set flows place 0) + f * share a + f * share b ≡ weighed share flows =
          weighed-handed share flows place a b f (omega (arith, low, long)) refl (shares place halves low is) in
          let none : weighed share cleared ≡ weighed share (set flows place 0) = ap (weighed share) ec in
          omega (arith, first, second, whole, none);
      before = λ i less.
          let one : i ≢ a = λ e. omega (arith, e, after.0, less) in
          let two : i ≢ b = λ e. omega (arith, e, after.1, less) in
          let three : i ≢ place = λ e. omega (arith, e, less) in
          ap (λ (l : List ℕ). get_or l i 0) et ∙ get_or-set_other once b i (get_or once b 0 + f) 0 two
          ∙ ap (λ (l : List ℕ). get_or l i 0) eo ∙ get_or-set_other cleared a i (get_or cleared a 0 + f) 0 one
          ∙ ap (λ (l : List ℕ). get_or l i 0) ec ∙ get_or-set_other flows place i 0 0 three;
      none = λ any some.
          ap (λ (l : List ℕ). get_or l place 0) et ∙ get_or-set_other once b place (get_or once b 0 + f) 0 further
          ∙ ap (λ (l : List ℕ). get_or l place 0) eo ∙ get_or-set_other cleared a place (get_or cleared a 0 + f) 0 far
          ∙ ap (λ (l : List ℕ). get_or l place 0) ec ∙ get_or-set_same flows place 0 0 (omega (arith, low, long));
    }

-- the first half would get too much
pub excess_first : (parts : List (Option Halves)) → AreParts parts → (flows : List ℕ) → length flows ≡ length parts → (place : ℕ) →
    place < length parts →
    (halves : Halves) → part_at parts place ≡ Some halves → IsPassed (set flows place 0) halves.first (get_or flows place 0) →
    IsExcess parts flows
excess_first parts are flows long place low halves is passed =
    let f = get_or flows place 0 in
    let a = halves.first in
    let b = halves.second in
    let cleared = set flows place 0 in
    let after = are place halves low is in
    let size : length cleared ≡ length flows = length-set flows place 0 in (
      a,
      get_or cleared a 0 + f,
      after.2,
      passed,
      λ share shares.
          let part = weighed-part share cleared a f (omega (arith, after.2, size, long)) in
          let whole : weighed share cleared + f * share a + f * share b ≡ weighed share flows =
          weighed-handed share flows place a b f (omega (arith, low, long)) refl (shares place halves low is) in
          omega (arith, part, whole),
    )

-- the second half would get too much
pub excess_second : (parts : List (Option Halves)) → AreParts parts → (flows : List ℕ) → length flows ≡ length parts → (place : ℕ) →
    place < length parts →
    (halves : Halves) → part_at parts place ≡ Some halves → (once : List ℕ) →
    once ≡ set (set flows place 0) halves.first (get_or (set flows place 0) halves.first 0 + get_or flows place 0) →
    IsPassed once halves.second (get_or flows place 0) → IsExcess parts flows
excess_second parts are flows long place low halves is once eo passed =
    let f = get_or flows place 0 in
    let a = halves.first in
    let b = halves.second in
    let cleared = set flows place 0 in
    let after = are place halves low is in
    let size : length cleared ≡ length flows = length-set flows place 0 in
    let more : length once ≡ length flows = ap length eo ∙ length-set cleared a (get_or cleared a 0 + f) ∙ size in (
      b,
      get_or once b 0 + f,
      after.3,
      passed,
      λ share shares.
          let part = weighed-part share once b f (omega (arith, after.3, more, long)) in
          let first : weighed share once ≡ weighed share cleared + f * share a =
          ap (weighed share) eo ∙ weighed-more share cleared a f (omega (arith, after.2, size, long)) in
          let whole : weighed share cleared + f * share a + f * share b ≡ weighed share flows =
          weighed-handed share flows place a b f (omega (arith, low, long)) refl (shares place halves low is) in
          omega (arith, part, first, whole),
    )

-- once no leg that stands for two has some left, an arc has what all legs had for it
pub handed_down : (parts : List (Option Halves)) (flows old : List ℕ) → length flows ≡ length parts →
    ((share : ℕ → ℕ) → AreShares parts share → weighed share flows ≡ weighed share old) →
    ((k : ℕ) (halves : Halves) → k < length parts → part_at parts k ≡ Some halves → get_or flows k 0 ≡ 0) →
    (j : ℕ) (count : ℕ → ℕ) → IsCount parts j count → get_or flows j 0 ≡ weighed count old
handed_down parts flows old long kept none j count is =
    sym (weighed-only count flows j (omega (arith, is.within, long)) is.itself
    (λ i low other. here i (omega (arith, low, long)) other (part_at parts i) refl)) ∙ kept count is.shares
  where
    here : (i : ℕ) → i < length parts → i ≢ j → (part : Option Halves) → part_at parts i ≡ part → get_or flows i 0 * count i ≡ 0
    here i low other None e = none_right (get_or flows i 0) (count i) (is.others i low e other)
    here i low other (Some halves) e = none_left (get_or flows i 0) (count i) (none i halves low e)

-- the demand of a way reached one more leg
pub added_more : (share : ℕ → ℕ) (way flows now new : List ℕ) (demand i place : ℕ) → i < length way → place ≡ get_or way i 0 →
    place < length now →
    new ≡ set now place (get_or now place 0 + demand) → weighed share now ≡ weighed share flows + demand * shares_of share (take i way) →
    weighed share new ≡ weighed share flows + demand * shares_of share (take (i + 1) way)
added_more share way flows now new demand i place low at less is before =
    let step : weighed share new ≡ weighed share now + demand * share place =
    ap (weighed share) is ∙ weighed-more share now place demand less in
    let more : sum_by share (take (i + 1) way) ≡ sum_by share (take i way) + share place =
    sum_by_more share way i 0 low ∙ ap (λ (n : ℕ). sum_by share (take i way) + share n) (sym at) in
    let times : demand * sum_by share (take (i + 1) way) ≡ demand * (sum_by share (take i way) + share place) =
    ap (λ (n : ℕ). demand * n) more in
    omega (arith, step, before, times, mul-add demand (sum_by share (take i way)) (share place))

-- a leg of a way would get too much
pub excess_along : (way flows now : List ℕ) (demand i place : ℕ) → i < length way → place ≡ get_or way i 0 → place < length now →
    length now ≡ length flows → ((share : ℕ → ℕ) → weighed share now ≡ weighed share flows + demand * shares_of share (take i way)) →
    IsPassed now place demand → IsExcessAlong way demand flows
excess_along way flows now demand i place low at less long before passed = (
  place,
  get_or now place 0 + demand,
  omega (arith, less, long),
  passed,
  λ share.
      let part = weighed-part share now place demand less in
      let more : sum_by share (take (i + 1) way) ≡ sum_by share (take i way) + share place =
      sum_by_more share way i 0 low ∙ ap (λ (n : ℕ). sum_by share (take i way) + share n) (sym at) in
      let whole : sum_by share (take i way) + share place ≤ sum_by share way = omega (arith, more, sum_by-take-le share way (i + 1)) in
      let times = mul-le-mul_left demand whole in
      omega (arith, part, before share, times, mul-add demand (sum_by share (take i way)) (share place)),
)
