-- Where the tree of a source meets the trees of targets: at the least numbered node of least cost that both have.
use Rattle.std.specs.Prelude.{◌≡◌, ◌≢◌, ℕ, ◌+◌, ◌<◌, ◌≤◌, ◌⊎◌, ⊤, List, [], length, slice_index_or, Contains}
use Rattle.ch_graph.specs.declared.cost.Cost.{Cost}
use Rattle.ch_graph.specs.Cost.{IsAtMost, IsBelow, cost_sum}
use Rattle.ch_flows.specs.declared.meeting.Meet.{Meet}
use Rattle.ch_flows.specs.declared.meeting.Meeting.{Meeting}
use Rattle.ch_flows.specs.declared.tree.Mark.{Mark}
use Rattle.ch_flows.specs.declared.tree.Tree.{Tree}
use Rattle.ch_flows.specs.Trees.{mark_at, no_mark}

-- the entries of a tree that are kept
abbrev pub kept_of : Tree → List (ℕ × Mark)
kept_of tree = tree.kept.items

-- the entries of tree c
abbrev pub list_at : List (List (ℕ × Mark)) → ℕ → List (ℕ × Mark)
list_at lists c = slice_index_or lists c []

-- the entries with one node in both lists, among the first n of the first list
abbrev pub AreShared : List (ℕ × Mark) → List (ℕ × Mark) → ℕ → ℕ → ℕ → Type 0
AreShared ups downs n i j = (i < n) × (j < length downs) × ((mark_at ups i).0 ≡ (mark_at downs j).0)

abbrev pub shared_cost : List (ℕ × Mark) → List (ℕ × Mark) → ℕ → ℕ → Cost
shared_cost ups downs i j = cost_sum (mark_at ups i).1.cost (mark_at downs j).1.cost

-- of these the least numbered node of least cost
pub record IsFirstMeet (ups downs : List (ℕ × Mark)) (n : ℕ) (meet : Meet) : Type 0 where
  pub here : ℕ
  pub there : ℕ
  pub is : AreShared ups downs n here there
  pub cost : meet.cost ≡ shared_cost ups downs here there
  pub up : meet.up ≡ (mark_at ups here).1.spot
  pub down : meet.down ≡ (mark_at downs there).1.spot
  pub least : (i j : ℕ) → AreShared ups downs n i j →
      IsAtMost meet.cost (shared_cost ups downs i j)
      × (shared_cost ups downs i j ≡ meet.cost → (mark_at ups here).0 ≤ (mark_at ups i).0)

-- where the first n entries of the first list and the second list meet, if that is known
abbrev pub IsMeetingSoFar : List (ℕ × Mark) → List (ℕ × Mark) → ℕ → Meeting → Type 0
IsMeetingSoFar ups downs n Meeting.Nowhere = (i j : ℕ) → AreShared ups downs n i j → ⊥
IsMeetingSoFar ups downs n (Meeting.At meet) = IsFirstMeet ups downs n meet
IsMeetingSoFar ups downs n Meeting.Unknown = ⊤

-- the same of each of the other lists
abbrev pub AreMeetings : List (ℕ × Mark) → List (List (ℕ × Mark)) → ℕ → List Meeting → Type 0
AreMeetings ups lists n meetings = (c : ℕ) → c < length lists →
    IsMeetingSoFar ups (list_at lists c) n (slice_index_or meetings c Meeting.Unknown)

-- stop j
abbrev pub stop_at : List (ℕ × Mark) → ℕ → ℕ × Mark
stop_at stops j = slice_index_or stops j (0, no_mark)

-- list c was met at entry n of the first list, or it is none of the first j stops
abbrev pub IsMetBefore : List (ℕ × Mark) → List (ℕ × Mark) → ℕ → List (ℕ × Mark) → ℕ → ℕ → Meeting → Type 0
IsMetBefore ups downs n stops j c meeting = IsMeetingSoFar ups downs (n + 1) meeting
    ⊎ (((k : ℕ) → k < j → (stop_at stops k).0 ≢ c) × IsMeetingSoFar ups downs n meeting)

-- of an old meet and a new one the one that costs less, and the old one if both cost the same
abbrev pub IsFirstOf : Meeting → Meet → Meeting → Type 0
IsFirstOf Meeting.Nowhere new result = result ≡ Meeting.At new
IsFirstOf (Meeting.At old) new result =
    ((result ≡ Meeting.At new) × IsBelow new.cost old.cost) ⊎ ((result ≡ Meeting.At old) × IsAtMost old.cost new.cost)
IsFirstOf Meeting.Unknown new result = result ≡ Meeting.Unknown

-- that, if it is known
abbrev pub IsNearer : Meeting → Meet → Meeting → Type 0
IsNearer old new result = (result ≡ Meeting.Unknown) ⊎ IsFirstOf old new result

-- for each entry of the first n lists a pair of its node and a stop
pub record ArePairs (lists : List (List (ℕ × Mark))) (n : ℕ) (pairs : List (ℕ × (ℕ × Mark))) : Type 0 where
  pub sound : (v c : ℕ) (mark : Mark) → Contains pairs (v, (c, mark)) → (c < n) × Contains (list_at lists c) (v, mark)
  pub whole : (v c : ℕ) (mark : Mark) → c < n → Contains (list_at lists c) (v, mark) → Contains pairs (v, (c, mark))

-- the lists that have an entry of v, each with what is known of it
pub record AreStopsAt (lists : List (List (ℕ × Mark))) (v : ℕ) (stops : List (ℕ × Mark)) : Type 0 where
  pub sound : (c : ℕ) (mark : Mark) → Contains stops (c, mark) → (c < length lists) × Contains (list_at lists c) (v, mark)
  pub whole : (c : ℕ) (mark : Mark) → c < length lists → Contains (list_at lists c) (v, mark) → Contains stops (c, mark)

-- the same for each node
abbrev pub AreStops : List (List (ℕ × Mark)) → List (List (ℕ × Mark)) → Type 0
AreStops stops lists = (v : ℕ) → v < length stops → AreStopsAt lists v (slice_index_or stops v [])
