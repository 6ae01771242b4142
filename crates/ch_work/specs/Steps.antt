-- What a step does to the view of its pass.
use Rattle.std.specs.Prelude.{◌≡◌, ℕ, ◌+◌, ◌-◌, ◌<◌, ◌≤◌, ◌⊎◌, [], ◌∷◌, ◌++◌}
use Rattle.atomic_table.specs.Table.{Me, Step}
use Rattle.ch_work.specs.declared.limits.TheConstants.{MOST_OFFER}
use Rattle.ch_work.specs.declared.board.known.Known.{Known}
use Rattle.ch_work.specs.Counts.{times, times_at}
use Rattle.ch_work.specs.Rule.{none_yet}

-- the view of passes that have done nothing
abbrev pub nothing_known : ℕ → ℕ → Known
nothing_known pieces parts = record { pieces = pieces; parts = parts; ended = 0; claims = []; offers = []; shown = [] }

-- the view after one more claim
abbrev pub with_claim : Known → ℕ → Known
with_claim v x = record v { claims = v.claims ++ x ∷ [] }

-- the view after one more pass has ended
abbrev pub with_end : Known → Known
with_end v = record v { ended = v.ended + 1 }

-- the view after one more offer
abbrev pub with_offer : Known → ℕ → ℕ → Known
with_offer v cell x = record v { offers = v.offers ++ (cell, x) ∷ [] }

-- the view after one more look
abbrev pub with_look : Known → ℕ → ℕ → Known
with_look v cell x = record v { shown = v.shown ++ (cell, x) ∷ [] }

-- the pass offered or was shown the weight x at the cell
abbrev pub Knows : Known → ℕ → ℕ → Type 0
Knows v cell x = 0 < times_at cell x v.offers + times_at cell x v.shown

-- a claim: the pass gets a number below the pieces that is greater than all its earlier claims, or it ends
abbrev pub Claims : Step (Unit {0}) → Me (Unit {0}) Known → ℕ → Me (Unit {0}) Known → Type 0
Claims s me n me' =
    (me'.1 ≡ me.1)
    × (((n < me.0.pieces) × (me'.0 ≡ with_claim me.0 n) × ((y : ℕ) → 0 < times y me.0.claims → y < n))
    ⊎ ((me.0.pieces ≤ n) × (me'.0 ≡ with_end me.0)))

-- an offer of the weight to the cell of that word
abbrev pub Offers : Step (Unit {0}) → Me (Unit {0}) Known → ℕ → Me (Unit {0}) Known → Type 0
Offers s me n me' = (me'.1 ≡ me.1) × (me'.0 ≡ with_offer me.0 (s.word - 1) s.first)

-- a look at the cell of that word: a weight that is at most each weight that the pass knows there, or nothing if it
-- knows none
abbrev pub Looks : Step (Unit {0}) → Me (Unit {0}) Known → ℕ → Me (Unit {0}) Known → Type 0
Looks s me n me' =
    (me'.1 ≡ me.1)
    × (((n ≤ MOST_OFFER) × (me'.0 ≡ with_look me.0 (s.word - 1) n) × ((x : ℕ) → Knows me.0 (s.word - 1) x → n ≤ x))
    ⊎ ((n ≡ none_yet) × (me'.0 ≡ me.0) × ((x : ℕ) → Knows me.0 (s.word - 1) x → ⊥)))

-- the view after one pass is split off
abbrev pub less_one : Known → Known
less_one v = record v { parts = v.parts - 1 }

-- the view of the pass that is split off
abbrev pub one_part : Known → Known
one_part v = nothing_known v.pieces 1

-- the views of two passes together
abbrev pub both : Known → Known → Known
both v w = record {
  pieces = w.pieces;
  parts = v.parts + w.parts;
  ended = v.ended + w.ended;
  claims = v.claims ++ w.claims;
  offers =
      v.offers ++ w.offers;
  shown = v.shown ++ w.shown;
}

-- a new view that stands for no pass
abbrev pub Enters : Step (Unit {0}) → Me (Unit {0}) Known → ℕ → Me (Unit {0}) Known → Type 0
Enters s me n me' = me'.0 ≡ nothing_known 0 0
