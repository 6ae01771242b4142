-- The texts that options ask for, from those by a hierarchy.
use Rattle.std.proofs.Common.{◌≡◌, ℕ, Bool, true, false, if◌then◌else◌, List, [], ◌∷◌, ◌++◌, Option, refl, sym, ap₂, ◌∙◌, subst}
use Rattle.std.specs.Prelude.{IfOk, Result, Vec}
use Rattle.std.specs.declared.alloc.Global.{Global}
use Rattle.std.proofs.lemmas.Grind.{flat_map-append}
use Rattle.std.proofs.lemmas.List.{append-nil}
use Rattle.std.proofs.lemmas.Result.{IfOk-weaker}
use Rattle.ch_graph.specs.Graph.{Network, IsWithinLimits}
use Rattle.ch_hierarchy.specs.Hierarchy.{LevelsAndLegs, nodes_of}
use Rattle.ch_hierarchy.specs.Kept.{IsKept}
use Rattle.ch_query.specs.declared.answer.Answer.{Answer}
use Rattle.ch_query.specs.Replies.{IsReply}
use Rattle.ch_hierarchy.specs.Direction.{facing}
use Rattle.ch_rows.specs.Near.{Wanted, IsNearRow, IsNearestRow}
use Rattle.ch_rows.proofs.GraphRows.{row_of_graph}
use Rattle.ch_job.specs.declared.options.Options.{Options}
use Rattle.ch_job.specs.declared.sources.Sources.{Sources}
use Rattle.ch_text.specs.Distances.{AnswersShortly, IsDistanceText, distance_text}
use Rattle.ch_text.specs.NearText.{near_row_text}
use Rattle.ch_text.specs.Routes.{answer_text}
use Rattle.ch_text.proofs.GraphTexts.{replies_routed, replies_short, short_text}
use Rattle.ch_text.proofs.RowTexts.{rows_weaker}
use Rattle.ch_work.proofs.PieceLists.{zipped_append}
use Rattle.ch_run.proofs.Lines.{lines_values}
use Rattle.ch_run.proofs.Parts.{bytes_of}
use Rattle.ch_run.specs.Lines.{AreReplyLines, HasLines}
use Rattle.ch_run.specs.NearRows.{HasNearRows}
use Rattle.ch_run.specs.NearRun.{nodes_of_sources}
use Rattle.ch_run.specs.Source.{IsOfRoutes, IsServing, needed_by_queries}
use Rattle.ch_run.specs.Text.{IsNearTextFor, IsTextBy, writes_routes}
use Rattle.ch_run.specs.declared.needed.Needed.{Needed}
use Rattle.ch_run.specs.declared.needed.Needed.TheVariants.{Any, InOrder}

-- the lines of the replies of a hierarchy that is right for a graph are the text that is asked for
pub replies_text : (g : Network) (H : LevelsAndLegs) → IsWithinLimits g → IsKept g H →
    (routes : Bool) (queries : List (ℕ × ℕ)) (text : List ℕ) → HasLines (AreReplyLines H routes) queries text →
    IsTextBy routes g (λ K. K ≡ H) queries text
replies_text g H limits kept false queries text lines =
    let replies = lines_values (IsReply H false) answer_text queries text lines in
    replies_short g H limits kept queries replies.0 text replies.1 replies.2
replies_text g H limits kept true queries text lines =
    let replies = lines_values (IsReply H true) answer_text queries text lines in
    (H, refl, replies_routed g H limits kept queries replies.0 text replies.1 replies.2)

-- the answer to one more query follows those before it
pub short_more : (g : Network) (queries : List (ℕ × ℕ)) (query : ℕ × ℕ) (answer : Answer) (before after : List ℕ) →
    AnswersShortly g query answer → IsDistanceText g queries before → after ≡ before ++ answer_text answer →
    IsDistanceText g (queries ++ query ∷ []) after
short_more g queries query answer before after short so_far more =
    let one = short_text g (query ∷ []) (answer ∷ []) (answer_text answer) (short, tt) (sym (append-nil (answer_text answer))) in (
      so_far.0 ++ one.0,
      zipped_append (AnswersShortly g) queries so_far.0 (query ∷ []) one.0 so_far.1 one.1,
      more ∙ ap₂ ◌++◌ so_far.2 one.2 ∙ sym (flat_map-append distance_text so_far.0 one.0),
    )

-- a text by one of some hierarchies is one by one of others, if those are among these
pub text_among : (routes : Bool) (g : Network) (From Other : LevelsAndLegs → Type 0) → ((H : LevelsAndLegs) → From H → Other H) →
    (queries : List (ℕ × ℕ)) (text : List ℕ) → IsTextBy routes g From queries text → IsTextBy routes g Other queries text
text_among false g From Other among queries text t = t
text_among true g From Other among queries text t = (t.0, among t.0 t.1, t.2)

-- the text by a hierarchy that serves has the routes of the wanted one, or only distances, which are the same for each hierarchy
pub text_of_needed : (options : Options) (needed : Needed) → needed ≡ needed_by_queries options → (g : Network)
    (h saved : Option LevelsAndLegs) → ((K : LevelsAndLegs) → IsServing needed options.hops.number g saved K →
    IsServing needed options.hops.number g h K) → (queries : List (ℕ × ℕ)) (text : List ℕ) →
    IsTextBy (writes_routes options) g (IsServing needed options.hops.number g saved) queries text →
    IsTextBy (writes_routes options) g (IsOfRoutes options g h) queries text
text_of_needed options needed is g h saved place queries text t = at (writes_routes options)
    (subst (λ (n : Needed). IsTextBy (writes_routes options) g (IsServing n options.hops.number g h) queries text) is
    (text_among (writes_routes options) g (IsServing needed options.hops.number g saved) (IsServing needed options.hops.number g h) place
    queries text t))
  where
    at : (routes : Bool) →
        IsTextBy routes g (IsServing (if routes then InOrder options.order else Any) options.hops.number g h) queries text →
        IsTextBy routes g (IsServing (InOrder options.order) options.hops.number g h) queries text
    at true t = t
    at false t = t

-- if a call makes the near rows of a hierarchy that is right for a graph, it makes those of the graph
pub made_of_graph : {E : Type 0} (H : LevelsAndLegs) (options : Options) (sources : Sources (Vec ℕ Global)) (targets : List ℕ)
    (wanted : Wanted) (made : Result (Vec (Vec ℕ Global) Global) E) →
    wanted ≡ record { hierarchy = facing options.direction H; targets = targets; limit = options.within; count = options.count } →
    IfOk made (λ parts. HasNearRows wanted (nodes_of_sources (nodes_of H) sources) (bytes_of parts.items)) → IfOk made
    (λ parts. (g : Network) → IsWithinLimits g → IsKept g H →
    IsNearTextFor options g (nodes_of_sources g.nodes sources) targets (bytes_of parts.items))
made_of_graph H options sources targets wanted made is h = IfOk-weaker made _ _ (λ parts rows g limits kept.
    let of = nodes_of_sources g.nodes sources in
    rows_weaker (IsNearRow (facing options.direction H) options.within options.count targets) (near_row_text targets)
    (IsNearestRow g options.direction options.within options.count targets)
    (λ s row near. row_of_graph g H options.direction options.within options.count targets s row limits kept near) of (bytes_of parts.items)
    (subst (λ (w : Wanted). HasNearRows w of (bytes_of parts.items)) is
    (subst (λ (n : ℕ). HasNearRows wanted (nodes_of_sources n sources) (bytes_of parts.items)) kept.nodes rows))) h
