-- The texts of replies and of tables by a hierarchy are those of each graph that it is right for.
use Rattle.std.proofs.Common.{◌≡◌, ℕ, Bool, true, false, List, [], ◌∷◌, ◌++◌, Contains, Option, refl, ap, ap₂, ◌∙◌}
use Rattle.std.specs.List.{AllZip, flat_map}
use Rattle.std.proofs.lemmas.List.{append-nil}
use Rattle.ch_graph.specs.Graph.{Network, IsWithinLimits}
use Rattle.ch_graph.proofs.Lists.{zipped_also}
use Rattle.ch_hierarchy.specs.Hierarchy.{LevelsAndLegs}
use Rattle.ch_hierarchy.specs.Kept.{IsKept}
use Rattle.ch_query.specs.declared.answer.Answer.{Answer}
use Rattle.ch_query.specs.Limits.{IsDistanceWithin}
use Rattle.ch_query.specs.Replies.{IsReply}
use Rattle.ch_query.proofs.routing.Replies.{arcs_walk}
use Rattle.ch_text.specs.Distances.{Answers, AnswersShortly, HasText, IsDistanceText, distance_text}
use Rattle.ch_text.specs.RowTexts.{HasRows}
use Rattle.ch_text.specs.Routes.{AnswersWithRoute, answer_text, route_text}
use Rattle.ch_text.specs.TableText.{IsCell, IsTableRow, IsTableText, row_text}
use Rattle.ch_text.proofs.RowTexts.{rows_weaker}

-- answers without arcs are written as their distances alone
pub short_text : (g : Network) (queries : List (ℕ × ℕ)) (answers : List Answer) (text : List ℕ) →
    AllZip (AnswersShortly g) queries answers → text ≡ flat_map answer_text answers → IsDistanceText g queries text
short_text g queries answers text short is = (answers, short, is ∙ lines queries answers short)
  where
    lines : (queries : List (ℕ × ℕ)) (answers : List Answer) → AllZip (AnswersShortly g) queries answers →
        flat_map answer_text answers ≡ flat_map distance_text answers
    lines [] [] h = refl
    lines (q ∷ queries) (a ∷ answers) h = ap₂ ◌++◌
        (ap (λ arcs. distance_text a ++ route_text arcs) h.0.1 ∙ append-nil (distance_text a)) (lines queries answers h.1)
    lines _ _ h = absurd h

module _ (g : Network) (H : LevelsAndLegs) (limits : IsWithinLimits g) (kept : IsKept g H) where
  -- a reply is an answer on the graph
  reply_answers : (routes : Bool) (query : ℕ × ℕ) (a : Answer) → IsReply H routes query a → Answers g query a
  reply_answers routes query a r = record { from = r.from; to = r.to; weight = r.distance g limits kept }

  -- the replies without routes have the text of the distances
  pub replies_short : (queries : List (ℕ × ℕ)) (answers : List Answer) (text : List ℕ) → AllZip (IsReply H false) queries answers →
      text ≡ flat_map answer_text answers → IsDistanceText g queries text
  replies_short queries answers text replies = short_text g queries answers text
      (zipped_also (IsReply H false) (AnswersShortly g) queries answers (λ query a _ r. (reply_answers false query a r, r.arcs)) replies)

  -- the replies with routes have the text of the distances with their routes
  pub replies_routed : (queries : List (ℕ × ℕ)) (answers : List Answer) (text : List ℕ) → AllZip (IsReply H true) queries answers →
      text ≡ flat_map answer_text answers → HasText answer_text (AnswersWithRoute g H) queries text
  replies_routed queries answers text replies is =
      (answers, zipped_also (IsReply H true) (AnswersWithRoute g H) queries answers routed replies, is)
    where
      routed : (query : ℕ × ℕ) (a : Answer) → Contains queries query → IsReply H true query a → AnswersWithRoute g H query a
      routed query a _ r = record {
        answers = reply_answers true query a r;
        route = r.arcs;
        walk = arcs_walk g H limits kept query.0 query.1 a.weight a.arcs r.arcs;
      }

  -- the rows of distances by the hierarchy have the text of the table
  pub rows_table : (limit : Option ℕ) (sources targets text : List ℕ) →
      HasRows (λ s cells. AllZip (IsDistanceWithin H limit s) targets cells) row_text sources text →
      IsTableText g limit sources targets text
  rows_table limit sources targets = rows_weaker (λ s cells. AllZip (IsDistanceWithin H limit s) targets cells) row_text
      (IsTableRow g limit targets) (λ s cells. zipped_also (IsDistanceWithin H limit s) (IsCell g limit s) targets cells
      (λ t cell _ is. (is.whole, is.distance g limits kept, is.cut))) sources
