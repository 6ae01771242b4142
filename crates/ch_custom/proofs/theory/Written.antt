-- A list of many that is written.
use Rattle.std.proofs.Common.{◌≡◌, ℕ, ◌<◌, List, [], length, get_or, set, sym, ◌∙◌, ap, arith, get_or-set_same}
use Rattle.std.specs.Prelude.{map}
use Rattle.std.proofs.lemmas.List.{map-set, get_or-map, length-map}

-- the lists after one of them is written, and that list
pub written_list : {V X : Type 0} (items : V → List X) (rows : List V) (now : List (List X)) (i : ℕ) (r : V) (list : List X) →
    map items rows ≡ now → i < length now → items r ≡ list →
    (map items (set rows i r) ≡ set now i list) × (get_or (map items (set rows i r)) i [] ≡ list)
written_list items rows now i r list view lt is =
    let all : map items (set rows i r) ≡ set now i list = map-set items rows i r ∙ ap (λ z. set z i (items r)) view ∙ ap (set now i) is in
    (all, ap (λ z. get_or z i []) all ∙ get_or-set_same now i list [] lt)

-- the list of a place
pub read_list : {V X : Type 0} (items : V → List X) (rows : List V) (now : List (List X)) (i : ℕ) (d : V) (list : List X) →
    map items rows ≡ now → i < length now → items (get_or rows i d) ≡ list → get_or now i [] ≡ list
read_list items rows now i d list view lt is =
    let size : length rows ≡ length now = sym (length-map rows items) ∙ ap length view in
    ap (λ z. get_or z i []) (sym view) ∙ get_or-map items rows i d [] (omega arith) ∙ is
