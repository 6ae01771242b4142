-- One more pair is served.
use Rattle.std.proofs.Common.{◌≡◌, ℕ, ◌+◌, Bool, List, [], ◌∷◌, ◌++◌, get_or, Option, Some, None, true, false}
use Rattle.std.proofs.Common.{true≢false, refl, sym, ◌∙◌, ap, subst, arith, inl, inr, length-append}
use Rattle.std.specs.Prelude.{is_some}
use Rattle.std.proofs.lemmas.Bool.{cases_lt}
use Rattle.std.proofs.lemmas.List.Sums.{sum_by_push}
use Rattle.std.proofs.lemmas.List.{get_or_append_left, get_or_push}
use Rattle.ch_hierarchy.specs.Hierarchy.{LevelsAndLegs}
use Rattle.ch_query.specs.declared.routes.Route.{Route}
use Rattle.ch_flows.specs.declared.plan.Link.{Link}
use Rattle.ch_flows.specs.Flows.{AreServed, IsAnswer, arcs_of, missing, without_route}
use Rattle.ch_flows.specs.Plans.{AreCounted, AreCountedBy, IsPairAt, IsTally, IsTallyBy, IsWay}

pub served_more : (H : LevelsAndLegs) (sources targets demands : List ℕ) (n : ℕ) (served : List (ℕ × Option Route)) (demand : ℕ)
    (answer : Option Route) →
    AreServed H sources targets demands n served → demand ≡ get_or demands n 0 →
    IsAnswer H (get_or sources n 0) (get_or targets n 0) answer →
    AreServed H sources targets demands (n + 1) (served ++ (demand, answer) ∷ [])
served_more H sources targets demands n served demand answer are e is =
    let one : List (ℕ × Option Route) = (demand, answer) ∷ [] in
    let none : ℕ × Option Route = (0, None) in record {
      long = omega (arith, length-append served one, are.long);
      demand = λ i low. elim (cases_lt i n) [
        | inl less ↦ ap (λ (p : ℕ × Option Route). p.0) (get_or_append_left served one none i (omega (arith, less, are.long)))
            ∙ are.demand i less
        | inr last ↦ (
            let at : i ≡ n = omega (arith, last, low) in
            ap (λ (p : ℕ × Option Route). p.0) (get_or_push served (demand, answer) none i (omega (arith, at, are.long))) ∙ e
            ∙ ap (λ (k : ℕ). get_or demands k 0) (sym at))
      ];
      route = λ i low. elim (cases_lt i n) [
        | inl less ↦ subst (λ (p : ℕ × Option Route). IsAnswer H (get_or sources i 0) (get_or targets i 0) p.1)
            (sym (get_or_append_left served one none i (omega (arith, less, are.long)))) (are.route i less)
        | inr last ↦ (
            let at : i ≡ n = omega (arith, last, low) in
            subst (λ (p : ℕ × Option Route). IsAnswer H (get_or sources i 0) (get_or targets i 0) p.1)
            (sym (get_or_push served (demand, answer) none i (omega (arith, at, are.long))))
            (subst (λ (k : ℕ). IsAnswer H (get_or sources k 0) (get_or targets k 0) answer) (sym at) is))
      ];
    }

-- a pair without a route is one more, and a pair with one is not
pub missing_one : (answer : Option Route) → is_some answer ≡ false → missing answer ≡ 1
missing_one None e = refl
missing_one (Some route) e = absurd (true≢false e)

pub missing_zero : (answer : Option Route) → is_some answer ≡ true → missing answer ≡ 0
missing_zero None e = absurd (true≢false (sym e))
missing_zero (Some route) e = refl

pub missed_more : (served : List (ℕ × Option Route)) (demand : ℕ) (answer : Option Route) (old new : ℕ) → old ≡ without_route served →
    new ≡ old + missing answer → new ≡ without_route (served ++ (demand, answer) ∷ [])
missed_more served demand answer old new before is =
    omega (arith, before, is, sum_by_push (λ (p : ℕ × Option Route). missing p.1) served (demand, answer))

-- one more pair is counted, if its demand is added along its way
pub counted_pair : (H : LevelsAndLegs) (links : List Link) (sources targets demands : List ℕ) (n : ℕ) (way : List ℕ) (found : Bool)
    (demand : ℕ) (pair : IsPairAt H links sources targets demands n way found demand) (flows new : List ℕ) (missed more : ℕ)
    (counted : AreCounted H links sources targets demands n flows missed) (places : List ℕ) →
    (IsWay H links places (arcs_of pair.0.0) → IsTally H links (counted.0 ++ (demand, pair.0.0) ∷ []) new) → places ≡ way →
    missing pair.0.0 ≡ more → AreCounted H links sources targets demands (n + 1) new (missed + more)
counted_pair H links sources targets demands n way found demand pair flows new missed more counted places added same missed_is =
    let answer = pair.0.0 in (
      counted.0 ++ (demand, answer) ∷ [],
      served_more H sources targets demands n counted.0 demand answer counted.1 (sym pair.1) pair.0.2,
      added (subst (λ (l : List ℕ). IsWay H links l (arcs_of answer)) (sym same) pair.0.3),
      missed_more counted.0 demand answer missed (missed + more) counted.3 (omega (arith, missed_is)),
    )

-- the same of a total
pub counted_cell : (H : LevelsAndLegs) (links : List Link) (sources targets demands : List ℕ) (n : ℕ) (way : List ℕ) (found : Bool)
    (demand : ℕ) (pair : IsPairAt H links sources targets demands n way found demand) (old new : (ℕ → ℕ) → ℕ) (missed more : ℕ)
    (counted : AreCountedBy H links sources targets demands n old missed) →
    IsTallyBy H links (counted.0 ++ (demand, pair.0.0) ∷ []) new → missing pair.0.0 ≡ more →
    AreCountedBy H links sources targets demands (n + 1) new (missed + more)
counted_cell H links sources targets demands n way found demand pair old new missed more counted tally missed_is =
    let answer = pair.0.0 in (
      counted.0 ++ (demand, answer) ∷ [],
      served_more H sources targets demands n counted.0 demand answer counted.1 (sym pair.1) pair.0.2,
      tally,
      missed_more counted.0 demand answer missed (missed + more) counted.3 (omega (arith, missed_is)),
    )

-- a total that is the same counts the same
pub counted_same : (H : LevelsAndLegs) (links : List Link) (sources targets demands : List ℕ) (n : ℕ) (old new : (ℕ → ℕ) → ℕ)
    (missed : ℕ) → ((share : ℕ → ℕ) → new share ≡ old share) → AreCountedBy H links sources targets demands n old missed →
    AreCountedBy H links sources targets demands n new missed
counted_same H links sources targets demands n old new missed same counted =
    (counted.0, counted.1, (λ u w share are. same share ∙ counted.2 u w share are), counted.3)
