-- Two trees meet where a route does, and its way goes over their branches there.
use Rattle.std.proofs.Common.{◌≡◌, ℕ, ◌+◌, ◌*◌, List, [], ◌++◌, length, Option, Some, false, refl, sym, ◌∙◌, ap}
use Rattle.std.proofs.Math.Nat.{mul-add}
use Rattle.std.proofs.lemmas.List.Sums.{sum_by-append}
use Rattle.ch_hierarchy.specs.Hierarchy.{LevelsAndLegs}
use Rattle.ch_hierarchy.specs.declared.side.Side.TheVariants.{Up, Down}
use Rattle.ch_query.specs.Distance.{IsKeptForSome}
use Rattle.ch_flows.specs.declared.gathering.Branch.{Branch}
use Rattle.ch_flows.specs.declared.handing.Halves.{Halves}
use Rattle.ch_flows.specs.declared.meeting.Found.{Found}
use Rattle.ch_flows.specs.declared.meeting.Meet.{Meet}
use Rattle.ch_flows.specs.declared.meeting.Meeting.{Meeting}
use Rattle.ch_flows.specs.declared.plan.Link.{Link}
use Rattle.ch_flows.specs.declared.tree.Tree.{Tree}
use Rattle.ch_flows.specs.Found.{IsFound, legs_of}
use Rattle.ch_flows.specs.Gathering.{way_of, worth}
use Rattle.ch_flows.specs.Handing.{shares_of}
use Rattle.ch_flows.specs.Meetings.{IsFirstMeet, IsMeetingSoFar}
use Rattle.ch_flows.specs.Plans.{IsPlan}
use Rattle.ch_flows.specs.Trees.{AreBranches, IsTree, mark_at}
use Rattle.ch_flows.proofs.Branches.{way_back}
use Rattle.ch_flows.proofs.Meetings.{meets, never, no_way, way_over}

module _ (H : LevelsAndLegs) (links : List Link) (parts : List (Option Halves)) (row columns : List Branch) (ups downs : Tree)
    (kept : IsKeptForSome H) (plan : IsPlan H links parts) (row_are : AreBranches Up H links row)
    (columns_are : AreBranches Down H links columns) (up : IsTree Up H row ups) (down : IsTree Down H columns downs) where
  pub found_nowhere : IsMeetingSoFar ups.kept.items downs.kept.items (length ups.kept.items) Meeting.Nowhere →
      IsFound H links row columns ups.source downs.source [] (Found.Listed false)
  found_nowhere apart = record {
    within = tt;
    way = no_way H links ups.source downs.source []
        (never H kept ups.source downs.source ups.kept.items downs.kept.items up.kept down.kept apart) refl;
  }

  pub found_between : (meet : Meet) (u d : ℕ) → IsFirstMeet ups.kept.items downs.kept.items (length ups.kept.items) meet →
      meet.up ≡ Some u → meet.down ≡ Some d → IsFound H links row columns ups.source downs.source [] (Found.Between u d)
  found_between meet u d first e f =
      let s = ups.source in
      let t = downs.source in
      let x = (mark_at ups.kept.items first.here).0 in
      let here = up.spots first.here u first.is.0 (sym first.up ∙ e) in
      let there = down.spots first.there d first.is.1 (sym first.down ∙ f) in
      let way = way_of row u in
      record {
        within = (here.0, there.0);
        way = way_over H links parts plan s t x meet.cost [] way (way ++ way_of columns d)
            (meets H kept s t ups.kept.items downs.kept.items up.kept down.kept meet first) refl
            (way_back Up H links row row_are s x u here [])
            (way_back Down H links columns columns_are t x d (there.0, there.1, there.2 ∙ sym first.is.2) way);
      }

-- a demand counts on both branches that a way goes over
pub between_worth : (share : ℕ → ℕ) (row columns : List Branch) (listed : List ℕ) (found : Found) (up down demand : ℕ) →
    found ≡ Found.Between up down → demand * shares_of share (legs_of row columns listed found)
    ≡ demand * worth share row up + demand * worth share columns down
between_worth share row columns listed found up down demand is =
    let legs : shares_of share (legs_of row columns listed found) ≡ worth share row up + worth share columns down =
    ap (λ (f : Found). shares_of share (legs_of row columns listed f)) is ∙ sum_by-append share (way_of row up) (way_of columns down) in
    ap (λ (n : ℕ). demand * n) legs ∙ mul-add demand (worth share row up) (worth share columns down)
