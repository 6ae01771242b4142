-- Texts with lines for each item of a list.
use Rattle.std.specs.Prelude.{◌≡◌, ℕ, Bool, List, flat_map}
use Rattle.std.specs.List.{AllZip}
use Rattle.ch_hierarchy.specs.Hierarchy.{LevelsAndLegs}
use Rattle.ch_rows.specs.Near.{IsWantedRow, Wanted}
use Rattle.ch_query.specs.Replies.{IsReply}
use Rattle.ch_text.specs.NearText.{near_row_text}
use Rattle.ch_text.specs.Routes.{answer_text}

-- the text has the lines of each item, in order; `Lines` says which lines an item has
abbrev pub HasLines : {A : Type 0} → (A → List ℕ → Type 0) → List A → List ℕ → Type 0
HasLines Lines items text = (each : List (List ℕ)) × AllZip Lines items each × (text ≡ flat_map (λ lines. lines) each)

-- the lines are those of a row of this item
abbrev pub AreLinesOf : {A B : Type 0} → (A → B → Type 0) → (A × B → List ℕ) → A → List ℕ → Type 0
AreLinesOf {B = B} P line item lines = (row : B) × P item row × (lines ≡ line (item, row))

-- the lines are the reply to this query, by the hierarchy
abbrev pub AreReplyLines : LevelsAndLegs → Bool → ℕ × ℕ → List ℕ → Type 0
AreReplyLines H routes = AreLinesOf (IsReply H routes) (λ reply. answer_text reply.1)

-- the lines are the near row of this source, as it is wanted
abbrev pub AreNearLines : Wanted → ℕ → List ℕ → Type 0
AreNearLines wanted = AreLinesOf (IsWantedRow wanted) (near_row_text wanted.targets)
