-- What is held at branches: what a branch hands on, and what is too much for a leg of its way.
use Rattle.std.proofs.Common.{◌≡◌, ◌≢◌, ℕ, zero, suc, ◌+◌, ◌*◌, ◌<◌, ◌≤◌, List, [], ◌∷◌, length, get_or, set, Option, Some, None}
use Rattle.std.proofs.Common.{refl, ◌∙◌, ap, arith}
use Rattle.std.specs.Option.{option_map_or}
use Rattle.std.proofs.Math.ListN.{length-set}
use Rattle.std.proofs.Math.Nat.{mul-add, mul-le-mul_left}
use Rattle.std.proofs.lemmas.List.{get_or-set_other, get_or-set_same}
use Rattle.std.proofs.lemmas.List.Sums.{sum_by-cons}
use Rattle.ch_flows.specs.declared.gathering.Branch.{Branch}
use Rattle.ch_flows.specs.declared.gathering.Step.{Step}
use Rattle.ch_flows.specs.Gathering.{AreStepsBack, IsFull, IsHandedOn, IsOver, branch_at, gathered, way_of, way_within, worth}
use Rattle.ch_flows.specs.Handing.{IsPassed, shares_of, weighed}
use Rattle.ch_flows.proofs.Weighed.{none_left, none_right, weighed-more, weighed-none, weighed-part, weighed-zero}

-- two ways are the same if they are the same before their last step
step_same : (f g : ℕ → List ℕ) (last : Option Step) → ((s : Step) → last ≡ Some s → f s.before ≡ g s.before) →
    option_map_or (λ (s : Step). s.leg_place ∷ f s.before) last [] ≡ option_map_or (λ (s : Step). s.leg_place ∷ g s.before) last []
step_same f g None same = refl
step_same f g (Some s) same = ap (λ (l : List ℕ). s.leg_place ∷ l) (same s refl)

module _ (legs : ℕ) (branches : List Branch) (back : AreStepsBack legs branches) where
  -- a way has no more steps than come before its branch
  way_enough : (n m k : ℕ) → k < n → k < m → k < length branches → way_within branches n k ≡ way_within branches m k
  way_enough zero m k low less inside = absurd (omega (arith, low))
  way_enough (suc n) zero k low less inside = absurd (omega (arith, less))
  way_enough (suc n) (suc m) k low less inside =
      step_same (λ (b : ℕ). way_within branches n b) (λ (b : ℕ). way_within branches m b) (branch_at branches k).step
      (λ s is.
      let before = (back k s inside is).0 in
      way_enough n m s.before (omega (arith, before, low)) (omega (arith, before, less)) (omega (arith, before, inside)))

  -- a way is its last leg and the way before
  way_step : (k : ℕ) (s : Step) → k < length branches → (branch_at branches k).step ≡ Some s →
      way_of branches k ≡ s.leg_place ∷ way_of branches s.before
  way_step k s inside is =
      let n = length branches in
      way_enough n (suc n) k inside (omega (arith, inside)) inside
      ∙ ap (λ (last : Option Step). option_map_or (λ (b : Step). b.leg_place ∷ way_of branches b.before) last []) is

  -- what the way of a branch counts
  pub worth_step : (share : ℕ → ℕ) (k : ℕ) (s : Step) → k < length branches → (branch_at branches k).step ≡ Some s →
      worth share branches k ≡ share s.leg_place + worth share branches s.before
  worth_step share k s inside is =
      ap (shares_of share) (way_step k s inside is) ∙ sum_by-cons share s.leg_place (way_of branches s.before)

  -- what is too much for a branch is too much for the leg of its last step
  pub full_over : (held : List ℕ) (place demand : ℕ) → length held ≡ length branches → place < length branches →
      IsFull branches held place demand → IsOver legs (λ share. gathered share branches held + demand * worth share branches place)
  full_over held place demand long low full =
      let s = full.0 in (
        s.leg_place,
        get_or held place 0 + demand,
        (back place s low full.1).1,
        full.2,
        λ share.
            let whole = worth_step share place s low full.1 in
            let leg : share s.leg_place ≤ worth share branches place = omega (arith, whole) in
            let more = mul-le-mul_left (get_or held place 0 + demand) leg in
            omega (arith, more, weighed-part (worth share branches) held place demand (omega (arith, low, long))),
      )

  module _ (held flows : List ℕ) (place : ℕ) (long : length held ≡ length branches) (low : place < length branches) (s : Step)
      (is : (branch_at branches place).step ≡ Some s) where
    abbrev cleared : List ℕ
    cleared = set held place 0

    -- what is held at a branch counts on its last leg and on the way before
    split : (share : ℕ → ℕ) → gathered share branches cleared + get_or held place 0 * share s.leg_place
        + get_or held place 0 * worth share branches s.before ≡ gathered share branches held
    split share =
        let d = get_or held place 0 in
        let all : gathered share branches cleared + d * worth share branches place ≡ gathered share branches held =
        weighed-none (worth share branches) held place (omega (arith, low, long)) in
        let whole : d * worth share branches place ≡ d * (share s.leg_place + worth share branches s.before) =
        ap (λ (n : ℕ). d * n) (worth_step share place s low is) in
        omega (arith, all, whole, mul-add d (share s.leg_place) (worth share branches s.before))

    -- both get it
    pub handed_back : (new now : List ℕ) → s.leg_place < length flows →
        now ≡ set flows s.leg_place (get_or flows s.leg_place 0 + get_or held place 0) →
        ((share : ℕ → ℕ) → gathered share branches new
        ≡ gathered share branches cleared + get_or held place 0 * worth share branches s.before) →
        ((k : ℕ) → k ≢ s.before → get_or new k 0 ≡ get_or cleared k 0) → IsHandedOn branches place held flows new now
    handed_back new now leg put added others =
        let before = (back place s low is).0 in
        record {
          kept = λ share.
              let more : weighed share now ≡ weighed share flows + get_or held place 0 * share s.leg_place =
              ap (weighed share) put ∙ weighed-more share flows s.leg_place (get_or held place 0) leg in
              omega (arith, more, added share, split share);
          none = others place (λ e. omega (arith, e, before)) ∙ get_or-set_same held place 0 0 (omega (arith, low, long));
          later = λ k after.
              others k (λ e. omega (arith, e, before, after)) ∙ get_or-set_other held place k 0 0 (λ e. omega (arith, e, after));
        }

    -- the leg would get too much
    pub over_leg : (legs_are : length flows ≡ legs) → IsPassed flows s.leg_place (get_or held place 0) →
        IsOver legs (λ share. weighed share flows + gathered share branches held)
    over_leg legs_are passed =
        let inside = (back place s low is).1 in (
          s.leg_place,
          get_or flows s.leg_place 0 + get_or held place 0,
          inside,
          passed,
          λ share. omega (
            arith,
            weighed-part share flows s.leg_place (get_or held place 0) (omega (arith, inside, legs_are)),
            split share,
          ),
        )

    -- the branch before would get too much
    pub over_before : IsFull branches cleared s.before (get_or held place 0) →
        IsOver legs (λ share. weighed share flows + gathered share branches held)
    over_before full =
        let before = (back place s low is).0 in
        let over = full_over cleared s.before (get_or held place 0) (length-set held place 0 ∙ long) (omega (arith, before, low)) full in
        (over.0, over.1, over.2, over.3, λ share. omega (arith, over.4 share, split share))

-- a branch without steps counts nothing
within_none : (branches : List Branch) (n k : ℕ) → (branch_at branches k).step ≡ None → way_within branches n k ≡ []
within_none branches zero k none = refl
within_none branches (suc n) k none =
    ap (λ (last : Option Step). option_map_or (λ (s : Step). s.leg_place ∷ way_within branches n s.before) last []) none

pub worth_none : (share : ℕ → ℕ) (branches : List Branch) (k : ℕ) → (branch_at branches k).step ≡ None → worth share branches k ≡ 0
worth_none share branches k none = ap (shares_of share) (within_none branches (length branches) k none)

-- what is left out at a source counts nothing
pub held_at_source : (share : ℕ → ℕ) (branches : List Branch) (held new : List ℕ) (place demand : ℕ) → new ≡ held →
    (branch_at branches place).step ≡ None →
    gathered share branches new ≡ gathered share branches held + demand * worth share branches place
held_at_source share branches held new place demand same none =
    let e = ap (gathered share branches) same in
    omega (arith, e, none_right demand (worth share branches place) (worth_none share branches place none))

-- a branch gets more
pub held_more : (share : ℕ → ℕ) (branches : List Branch) (held new : List ℕ) (place demand : ℕ) →
    new ≡ set held place (get_or held place 0 + demand) → place < length held →
    gathered share branches new ≡ gathered share branches held + demand * worth share branches place
held_more share branches held new place demand is low =
    ap (gathered share branches) is ∙ weighed-more (worth share branches) held place demand low

-- nothing is to be handed on
pub nothing_handed : (branches : List Branch) (held flows : List ℕ) (place : ℕ) → place < length held →
    ((share : ℕ → ℕ) → get_or held place 0 * worth share branches place ≡ 0) → IsHandedOn branches place held flows (set held place 0) flows
nothing_handed branches held flows place low nothing = record {
  kept = λ share. omega (arith, nothing share, weighed-none (worth share branches) held place low);
  none = get_or-set_same held place 0 0 low;
  later = λ k after. get_or-set_other held place k 0 0 (λ e. omega (arith, e, after));
}

pub nothing_at_source : (branches : List Branch) (held : List ℕ) (place : ℕ) → (branch_at branches place).step ≡ None →
    (share : ℕ → ℕ) → get_or held place 0 * worth share branches place ≡ 0
nothing_at_source branches held place none share =
    none_right (get_or held place 0) (worth share branches place) (worth_none share branches place none)

-- if nothing is held, it counts nothing
pub nothing_held : (share : ℕ → ℕ) (branches : List Branch) (held : List ℕ) → ((k : ℕ) → k < length held → get_or held k 0 ≡ 0) →
    gathered share branches held ≡ 0
nothing_held share branches held none =
    weighed-zero (worth share branches) held (λ i low. none_left (get_or held i 0) (worth share branches i) (none i low))

-- a total that is no more is no more than the greatest flow either
pub over_more : (legs : ℕ) (a b : (ℕ → ℕ) → ℕ) → ((share : ℕ → ℕ) → a share ≤ b share) → IsOver legs a → IsOver legs b
over_more legs a b most over = (over.0, over.1, over.2, over.3, λ share. omega (arith, over.4 share, most share))
