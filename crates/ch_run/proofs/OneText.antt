-- The definitions name one text, as the options ask for it.
use Rattle.std.proofs.Common.{◌≡◌, ℕ, Bool, true, false, List}
use Rattle.ch_graph.specs.Graph.{Network}
use Rattle.ch_hierarchy.specs.Hierarchy.{LevelsAndLegs}
use Rattle.ch_hierarchy.specs.Kept.{IsKept}
use Rattle.ch_rows.specs.Near.{IsNearestRow, IsWalkTo}
use Rattle.ch_rows.proofs.OneFirst.{one_first}
use Rattle.ch_job.specs.declared.options.Options.{Options}
use Rattle.ch_text.specs.NearText.{near_row_text}
use Rattle.ch_text.proofs.OneText.{one_distance_text, one_route_text}
use Rattle.ch_text.proofs.RowTexts.{one_rows}
use Rattle.ch_run.specs.Text.{IsNearTextFor, IsTextBy}

-- the answers have only one text, if the routes go by one hierarchy, which is kept
pub one_text_by : (routes : Bool) (g : Network) (From : LevelsAndLegs → Type 0) →
    ((H K : LevelsAndLegs) → From H → From K → H ≡ K) → ((H : LevelsAndLegs) → From H → IsKept g H) →
    (queries : List (ℕ × ℕ)) (text other : List ℕ) → IsTextBy routes g From queries text → IsTextBy routes g From queries other →
    text ≡ other
one_text_by false g From one kept = one_distance_text g
one_text_by true g From one kept = one_route_text g From one (λ H is. (kept H is).levelled)

-- near rows have only one text
pub one_rows_text : (options : Options) (g : Network) (sources targets text other : List ℕ) → IsNearTextFor options g sources targets text →
    IsNearTextFor options g sources targets other → text ≡ other
one_rows_text options g sources targets =
    one_rows (IsNearestRow g options.direction options.within options.count targets) (near_row_text targets)
    (λ s. one_first options.count (IsWalkTo g options.direction options.within targets s)) sources
