-- Texts that grow item by item.
use Rattle.std.proofs.Common.{◌≡◌, ℕ, ◌≤◌, List, ◌++◌, length, take, ap, ◌∙◌}
use Rattle.std.proofs.lemmas.List.{take_all}
use Rattle.std.specs.List.{flat_map}

-- all items are written
pub all_grown : {X : Type 0} (f : X → List ℕ) (items : List X) (i : ℕ) (start text : List ℕ) → length items ≤ i →
    text ≡ start ++ flat_map f (take i items) → text ≡ start ++ flat_map f items
all_grown f items i start text past so_far = so_far ∙ ap (λ xs. start ++ flat_map f xs) (take_all i items past)
