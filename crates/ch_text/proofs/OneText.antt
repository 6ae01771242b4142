-- The definitions of texts name one text.
use Rattle.std.proofs.Common.{◌≡◌, ℕ, true, List, Option, sym, ap, ◌∙◌, subst}
use Rattle.std.specs.List.{flat_map}
use Rattle.ch_graph.specs.Graph.{Network}
use Rattle.ch_graph.proofs.Lists.{zipped_one}
use Rattle.ch_graph.proofs.OneDistance.{one_answer}
use Rattle.ch_hierarchy.specs.Hierarchy.{LevelsAndLegs, IsLevelled}
use Rattle.ch_hierarchy.specs.Written.{written}
use Rattle.ch_hierarchy.proofs.theory.LevelOrder.{one_level_order}
use Rattle.ch_query.specs.declared.answer.Answer.{Answer}
use Rattle.ch_query.specs.Limits.{IsCut}
use Rattle.ch_query.specs.Replies.{HasArcs}
use Rattle.ch_query.proofs.routing.Replies.{one_arcs}
use Rattle.ch_query.proofs.two_sides.Distances.{one_cut}
use Rattle.ch_text.specs.Distances.{Answers, AnswersShortly, HasText, IsDistanceText, distance_text}
use Rattle.ch_text.specs.Routes.{AnswersWithRoute, IsRouteText, answer_text}
use Rattle.ch_text.specs.SaveText.{IsHierarchyText, saved_text}
use Rattle.ch_text.specs.TableText.{IsCell, IsTableRow, IsTableText, row_text}
use Rattle.ch_text.proofs.RowTexts.{one_rows}

-- answers to a query with the same arcs are equal
same_answers : (g : Network) (query : ℕ × ℕ) (a b : Answer) → Answers g query a → Answers g query b → a.arcs ≡ b.arcs → a ≡ b
same_answers g query a b h k arcs =
    let from = h.from ∙ sym k.from in
    let to = h.to ∙ sym k.to in
    let weight = one_answer g query.0 query.1 a.weight b.weight h.weight k.weight in
    λ i. record { from = from i; to = to i; weight = weight i; arcs = arcs i }

-- a query has only one answer with a route
one_routed : (g : Network) (H : LevelsAndLegs) → IsLevelled H → (query : ℕ × ℕ) (a b : Answer) → AnswersWithRoute g H query a →
    AnswersWithRoute g H query b → a ≡ b
one_routed g H levelled query a b h k =
    let weight = one_answer g query.0 query.1 a.weight b.weight h.answers.weight k.answers.weight in
    same_answers g query a b h.answers k.answers (one_arcs H levelled query.0 query.1 b.weight a.arcs b.arcs
    (subst (λ w. HasArcs H true query.0 query.1 w a.arcs) weight h.route) k.route)

-- if each query has only one answer, there is only one text
one_answers_text : (written : Answer → List ℕ) (P : ℕ × ℕ → Answer → Type 0) → ((q : ℕ × ℕ) (a b : Answer) → P q a → P q b → a ≡ b) →
    (queries : List (ℕ × ℕ)) (text other : List ℕ) → HasText written P queries text → HasText written P queries other → text ≡ other
one_answers_text written P one queries text other h k =
    h.2 ∙ ap (flat_map written) (zipped_one P one queries h.0 k.0 h.1 k.1) ∙ sym k.2

-- the distances have only one text
pub one_distance_text : (g : Network) (queries : List (ℕ × ℕ)) (text other : List ℕ) → IsDistanceText g queries text →
    IsDistanceText g queries other → text ≡ other
one_distance_text g = one_answers_text distance_text (AnswersShortly g) (λ query a b h k. same_answers g query a b h.0 k.0 (h.1 ∙ sym k.1))

-- the routes have only one text, if they go by one hierarchy
pub one_route_text : (g : Network) (From : LevelsAndLegs → Type 0) → ((H K : LevelsAndLegs) → From H → From K → H ≡ K) →
    ((H : LevelsAndLegs) → From H → IsLevelled H) → (queries : List (ℕ × ℕ)) (text other : List ℕ) → IsRouteText g From queries text →
    IsRouteText g From queries other → text ≡ other
one_route_text g From one levelled queries text other (H, is, t) (K, also, u) =
    one_answers_text answer_text (AnswersWithRoute g H) (one_routed g H (levelled H is)) queries text other t
    (subst (λ (L : LevelsAndLegs). HasText answer_text (AnswersWithRoute g L) queries other) (one K H also is) u)

-- two nodes have only one cell
one_cell : (g : Network) (limit : Option ℕ) (s t : ℕ) (a b : Option ℕ) → IsCell g limit s t a → IsCell g limit s t b → a ≡ b
one_cell g limit s t a b h k =
    one_cut limit h.0 a b h.2 (subst (λ whole. IsCut limit whole b) (sym (one_answer g s t h.0 k.0 h.1 k.1)) k.2)

-- a table has only one text
pub one_table_text : (g : Network) (limit : Option ℕ) (sources targets text other : List ℕ) → IsTableText g limit sources targets text →
    IsTableText g limit sources targets other → text ≡ other
one_table_text g limit sources targets =
    one_rows (IsTableRow g limit targets) row_text (λ s. zipped_one (IsCell g limit s) (one_cell g limit s) targets) sources

-- a hierarchy has only one text
pub one_hierarchy_text : (H : LevelsAndLegs) (text other : List ℕ) → IsHierarchyText H text → IsHierarchyText H other → text ≡ other
one_hierarchy_text H text other h k =
    h.2 ∙ ap (λ order. saved_text (written H order)) (one_level_order H h.0 k.0 h.1 k.1) ∙ sym k.2
