-- A list that is handed over keeps its place.
use Rattle.std.proofs.Common.{◌≡◌, ◌≢◌, ℕ, List, [], set, get_or, Some, ap, arith, sym, ◌∙◌}
use Rattle.std.specs.List.{slice_get}
use Rattle.std.proofs.lemmas.List.{map-set, set_comm}
use Rattle.std.proofs.Math.Logic.{⊎_elim}
use Rattle.ch_lists.specs.declared.place.Place.{Place}
use Rattle.ch_lists.specs.Places.{values_at, lists_at, ArePlaces}
use Rattle.ch_lists.specs.Packing.{nowhere}
use Rattle.ch_lists.proofs.Found.{found}
use Rattle.ch_lists.proofs.Placed.{set_places, apart_back, apart_from, apart_nowhere}

-- the places after a list was handed over
pub handed_places : (places : List Place) (size from to : ℕ) (p : Place) → ArePlaces places size → slice_get places from ≡ Some p →
    from ≢ to → ArePlaces (set (set places from nowhere) to p) size
handed_places places size from to p are at two =
    let emptied = set_places places from size size nowhere are (omega arith) are.small (omega arith) (omega arith)
    (λ k q _ _. apart_nowhere q) in
    set_places (set places from nowhere) to size size p emptied (omega arith) are.small (are.fits from p at) (are.within from p at)
    (λ k q is _. ⊎_elim
    (λ w. apart_back q p (apart_from q nowhere p w.1 (apart_nowhere p)))
    (λ w. are.apart from k p q at w.1 (λ e. w.0 (sym e)))
    (found places from k nowhere q is))

-- the lists after a list was handed over
pub handed_lists : {X : Type 0} (values : List X) (places : List Place) (lists : List (List X)) (from to : ℕ) (p : Place) →
    lists_at values places ≡ lists → get_or lists from [] ≡ values_at values p → from ≢ to
    → lists_at values (set (set places from nowhere) to p) ≡ set (set lists to (get_or lists from [])) from []
handed_lists {X} values places lists from to p are read two =
    map-set (values_at values) (set places from nowhere) to p
    ∙ ap (λ (ls : List (List X)). set ls to (values_at values p)) (map-set (values_at values) places from nowhere)
    ∙ set_comm (lists_at values places) from to [] (values_at values p) two
    ∙ ap (λ (ls : List (List X)). set (set ls to (values_at values p)) from []) are
    ∙ ap (λ (xs : List X). set (set lists to xs) from []) (sym read)
